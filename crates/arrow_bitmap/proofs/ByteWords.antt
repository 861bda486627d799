-- Lemmas about marks that are read and written as words.
use Rattle.std.proofs.Common.{◌≡◌, ℕ, zero, suc, ◌+◌, ◌-◌, ◌*◌, ◌/◌, ◌%◌, ◌^◌, ◌<◌, ◌≤◌, ◌==◌, w64, bit_or, List}
use Rattle.std.proofs.Common.{◌++◌, length, false, get_or, refl, sym, subst, ap, ap₂, ◌∙◌, arith, zero-add}
use Rattle.std.specs.Int.{bit_at, byte_at, bytes_low_first, from_le_bytes, to_le_bytes}
use Rattle.std.proofs.lemmas.List.FromFn.{get_or-map-range_with_len}
use Rattle.std.proofs.lemmas.Nat.{from_le_bytes-to_le_bytes_8, mod_below, shr-shr, shr_le}
use Rattle.std.proofs.lemmas.Nat.Bits.{bit_at_above, bit_at_or}
use Rattle.arrow_types.proofs.CallerLemmas.{max-zero, zero-max}
use Rattle.arrow_bitmap.specs.Marks.{bits_of, mark_at}
use Rattle.arrow_bitmap.proofs.CopyLemmas.{mark_at-behind, shifted_above, shifted_below}
use Rattle.arrow_bitmap.proofs.MarkLemmas.{eight_at, eight-same}
use Rattle.arrow_bitmap.proofs.MarkLemmas.{number, number-bit}

-- ---- eight bytes that are read as a word

-- the bits of a word are the marks of its bytes
word-marks : (bytes : List ℕ) → ((i : ℕ) → i ≤ 7 → get_or bytes i 0 < 256) → (k : ℕ) → k < 64
    → (bit_at (from_le_bytes w64 bytes) k == 1) ≡ mark_at bytes k
unfolding mark_at number
word-marks bytes small k low = ap (λ b. b == 1) (number-bit bytes 7 small k low)

-- a bit of a byte is its mark
pub bit-mark : (bytes : List ℕ) (i b j place : ℕ) → b ≡ get_or bytes i 0 → j < 8 → place ≡ 8 * i + j
    → (bit_at b j == 1) ≡ mark_at bytes place
unfolding mark_at
bit-mark bytes i b j place e low at =
    ap (λ x. bit_at x j == 1) e ∙ ap₂ (λ x y. bit_at (get_or bytes x 0) y == 1) (let f : i ≡ place / 8 =
    omega arith in f) (let f : j ≡ place % 8 = omega arith in f)

-- the bits of eight bytes of others are the others' marks
pub word-mark : (bytes : List ℕ) (first : ℕ) → ((i : ℕ) → get_or bytes i 0 < 256) → (k : ℕ) → k < 64
    → (bit_at (from_le_bytes w64 (eight_at bytes first)) k == 1) ≡ mark_at bytes (8 * first + k)
word-mark bytes first small k low =
    word-marks (eight_at bytes first) little k low
    ∙ sym (bit-mark (eight_at bytes first) (k / 8) (get_or bytes (first + k / 8) 0) (k % 8) k
    (sym (eight-same bytes first (k / 8) (omega arith))) (omega arith) (omega arith))
    ∙ bit-mark bytes (first + k / 8) (get_or bytes (first + k / 8) 0) (k % 8) (8 * first + k) refl (omega arith)
    (omega arith)
  where
    little : (i : ℕ) → i ≤ 7 → get_or (eight_at bytes first) i 0 < 256
    little i le = subst (λ x. x < 256) (sym (eight-same bytes first i (omega arith))) (small (first + i))

-- ---- a word from one of its bits on, and a byte behind it

module _ (word next shift : ℕ) (small : word < 2 ^ 64) (some : 0 < shift) (within : shift < 8) where
  pub moved-low : (k : ℕ) → shift + k < 64 → bit_at (bit_or (word / 2 ^ shift) (next * 2 ^ (64 - shift) % 2 ^ 64)) k
      ≡ bit_at word (shift + k)
  moved-low k inner =
      bit_at_or (word / 2 ^ shift) (next * 2 ^ (64 - shift) % 2 ^ 64) k
      ∙ max-zero _ _ (shifted_below 64 next (64 - shift) k (omega arith) (omega arith))
      ∙ ap (λ x. x % 2) (shr-shr word shift k)

  pub moved-high : (k : ℕ) → k < 64 → 64 ≤ shift + k
      → bit_at (bit_or (word / 2 ^ shift) (next * 2 ^ (64 - shift) % 2 ^ 64)) k ≡ bit_at next (shift + k - 64)
  moved-high k inner past =
      let place : k ≡ 64 - shift + (shift + k - 64) = omega arith in
      bit_at_or (word / 2 ^ shift) (next * 2 ^ (64 - shift) % 2 ^ 64) k
      ∙ zero-max _ _ (ap (λ x. x % 2) (shr-shr word shift k) ∙ bit_at_above word 64 (shift + k) small past)
      ∙ ap (bit_at (next * 2 ^ (64 - shift) % 2 ^ 64)) place
      ∙ shifted_above 64 next (64 - shift) (shift + k - 64) (omega arith)

-- ---- a word that is written as eight bytes

byte-small : (i n : ℕ) → byte_at i n < 256
byte-small zero n = omega arith
byte-small (suc i) n = mod_below (n / 256 ^ suc i) 256 (omega arith)

bytes-small : (first count n i : ℕ) → get_or (bytes_low_first first count n) i 0 < 256
bytes-small first zero n i = omega arith
bytes-small first (suc count) n zero = byte-small first n
bytes-small first (suc count) n (suc i) = bytes-small (suc first) count n i

-- its bytes have its bits as marks
pub written-mark : (word : ℕ) → word < 2 ^ 64 → (k : ℕ) → k < 64 → mark_at (to_le_bytes w64 word) k ≡ (bit_at word k == 1)
written-mark word fits k low =
    sym (word-marks (to_le_bytes w64 word) (λ i _. bytes-small 0 8 word i) k low)
    ∙ ap (λ w. bit_at w k == 1) (from_le_bytes-to_le_bytes_8 word fits)

-- a word's bits from one on, written behind others
pub word-behind : (old new : List ℕ) (word head j : ℕ) → word < 2 ^ 64 → new ≡ old ++ to_le_bytes w64 (word / 2 ^ head)
    → j < 64 → mark_at new (8 * length old + j) ≡ (bit_at word (head + j) == 1)
word-behind old new word head j fits appended low =
    let moved : word / 2 ^ head < 2 ^ 64 = omega (arith, fits, shr_le word head) in
    let place : 8 * length old + j - 8 * length old ≡ j = omega arith in
    ap (λ xs. mark_at xs (8 * length old + j)) appended
    ∙ mark_at-behind old (to_le_bytes w64 (word / 2 ^ head)) (length old) (8 * length old + j) refl (omega arith)
    ∙ ap (mark_at (to_le_bytes w64 (word / 2 ^ head))) place
    ∙ written-mark (word / 2 ^ head) moved j low
    ∙ ap (λ x. x % 2 == 1) (shr-shr word head j)

pub get_or-bits : (word n k : ℕ) → k < n → get_or (bits_of word n) k false ≡ (bit_at word k == 1)
get_or-bits word n k low = get_or-map-range_with_len (λ i. bit_at word i == 1) 0 n k k false low (zero-add k)
