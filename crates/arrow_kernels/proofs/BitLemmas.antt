-- Lemmas about the bits of words as marks.
use Rattle.std.proofs.Common.{◌≡◌, ℕ, ◌+◌, ◌-◌, ◌*◌, ◌%◌, ◌^◌, ◌<◌, ◌≤◌, ◌==◌, bit_and, Bool}
use Rattle.std.proofs.Common.{true, false, not, count_by, List, [], ◌∷◌, ◌++◌, length, take, slice_get, Some, refl}
use Rattle.std.proofs.Common.{sym, subst, ap, ap₂, ◌∙◌, arith, zero-add, add_comm, mul-le-mul_right}
use Rattle.std.specs.Int.{bit_at, from_bool}
use Rattle.std.proofs.Math.Nat.{pow-le-pow_right}
use Rattle.std.proofs.lemmas.List.{length-take-le, same_lists}
use Rattle.std.proofs.lemmas.List.FromFn.{get_or-map-range_with_len, map-range_with_len_more}
use Rattle.std.proofs.lemmas.Nat.{and_le_r, pow-add, pow_pos, shl_whole}
use Rattle.std.proofs.lemmas.Nat.Bits.{bit_at_above, bit_at_and, bit_at_cat_high, bit_at_cat_low, bit_at_lowest}
use Rattle.std.proofs.lemmas.Nat.Bits.{bit_at-lt, bit_at_ones}
use Rattle.arrow_memory.specs.Marks.{bits_of}
use Rattle.arrow_memory.proofs.CallerLemmas.{length-bits, take-bits}
use Rattle.arrow_bytes.specs.Selection.{where_set}
use Rattle.compute_base.specs.Words.{HoldsMarks}
use Rattle.compute_base.proofs.CallerLemmas.{bits-at}
use Rattle.arrow_kernels.specs.Filtering.{where-gap-up}
use Rattle.arrow_kernels.proofs.ChoiceLemmas.{where-all, where-append, where-full}

-- ---- the bits of a word

pub slice_get-bits : (word n : ℕ) → HoldsMarks word (bits_of word n) 0 n
slice_get-bits word n k low = ap (slice_get (bits_of word n)) (zero-add k) ∙ bits-at word n k low

same-bits : (a b n : ℕ) → ((i : ℕ) → i < n → bit_at a i ≡ bit_at b i) → bits_of a n ≡ bits_of b n
same-bits a b n same = same_lists _ _ (length-bits a n ∙ sym (length-bits b n)) (λ i d within.
    let low : i < n = subst (λ m. i < m) (length-bits a n) within in
    get_or-map-range_with_len (λ k. bit_at a k == 1) 0 n i i d low (zero-add i)
    ∙ ap (λ x. x == 1) (same i low)
    ∙ sym (get_or-map-range_with_len (λ k. bit_at b k == 1) 0 n i i d low (zero-add i)))

-- the lowest bits of a word
module _ (word n : ℕ) (few : n < 64) where
  ones : 1 * 2 ^ n % 2 ^ 64 - 1 ≡ 2 ^ n - 1
  ones = ap (λ m. m - 1) (shl_whole 1 1 n 64 (omega arith) (omega (arith, few))
      ∙ (let e : 1 * 2 ^ n ≡ 2 ^ n = omega arith in e))

  pub low-small : bit_and word (1 * 2 ^ n % 2 ^ 64 - 1) < 2 ^ n
  low-small = omega (arith, ones, and_le_r word (1 * 2 ^ n % 2 ^ 64 - 1), pow_pos n)

  pub low-bit : (k : ℕ) → k < n → bit_at (bit_and word (1 * 2 ^ n % 2 ^ 64 - 1)) k ≡ bit_at word k
  low-bit k low = omega (
    arith,
    bit_at_and word (1 * 2 ^ n % 2 ^ 64 - 1) k,
    ap (λ m. bit_at m k) ones,
    bit_at_ones n k low,
    bit_at-lt word k,
  )

-- the number of a mark has it as its one bit
pub number-small : (mark : Bool) (bit : ℕ) → bit ≡ from_bool mark → bit < 2
number-small true bit is = omega (arith, is)
number-small false bit is = omega (arith, is)

pub number-mark : (mark : Bool) (bit : ℕ) → bit ≡ from_bool mark → (bit == 1) ≡ mark
number-mark true bit is = ap (λ b. b == 1) is
number-mark false bit is = ap (λ b. b == 1) is

-- one more bit, put above the others
module _ (kept count bit new : ℕ) (small : kept < 2 ^ count) (single : bit < 2) (room : count < 64) (put : new
    ≡ kept + bit * 2 ^ count % 2 ^ 64) where
  plain : new ≡ bit * 2 ^ count + kept
  plain = put ∙ ap (λ n. kept + n) (shl_whole bit 1 count 64 single (omega arith)) ∙ add_comm kept (bit * 2 ^ count)

  pub more-small : new < 2 ^ (count + 1)
  more-small = omega (
    arith,
    plain,
    small,
    mul-le-mul_right (2 ^ count) (let le : bit ≤ 1 = omega (arith, single) in
        le),
    pow-add 2 count 1,
  )

  pub more-fits : new < 2 ^ 64
  more-fits = omega (
    arith,
    more-small,
    pow-le-pow_right {n = 2} (omega arith) {i = count + 1} {j =
        64} (omega (arith, room)),
  )

  pub more-bits : bits_of new (count + 1) ≡ bits_of kept count ++ (bit == 1) ∷ []
  more-bits =
      map-range_with_len_more (λ k. bit_at new k == 1) 0 count count (zero-add count)
      ∙ ap₂ (λ xs x. xs ++ (x == 1) ∷ []) (same-bits new kept count (λ i low. ap (λ n. bit_at n i) plain
      ∙ bit_at_cat_low bit count kept i low)) top
    where
      top : bit_at new count ≡ bit
      top =
          ap (λ n. bit_at n count) plain
          ∙ bit_at_cat_high bit count kept count small (omega arith)
          ∙ ap (bit_at bit) (let none : count - count ≡ 0 = omega arith in none)
          ∙ bit_at_lowest bit
          ∙ (let e : bit % 2 ≡ bit = omega (arith, single) in e)

-- ---- the bits of words as the next marks of lists

-- the first bits of a word, of which no others are set, select the same as all
where-few : (word bits n : ℕ) → n ≤ 64 → word < 2 ^ n
    → where_set (bits_of word 64) (bits_of bits 64) ≡ where_set (bits_of word n) (bits_of bits n)
where-few word bits n few small =
    sym (where-all (bits_of word 64) (bits_of bits 64) 64 (sym (length-bits word 64)) (sym (length-bits bits 64)))
    ∙ where-gap-up (bits_of word 64) (bits_of bits 64) n 64 few (λ k low high. bits-at word 64 k high
    ∙ ap (λ b. Some (b == 1)) (bit_at_above word n k small low))
    ∙ ap₂ where_set (front word) (front bits)
  where
    front : (w : ℕ) → take n (bits_of w 64) ≡ bits_of w n
    front w = ap (λ m. take m (bits_of w 64)) (let e : n ≡ 0 + n = omega arith in e)
        ∙ take-bits (bits_of w 64) 0 n w (λ k low. slice_get-bits w 64 k (omega (arith, low, few)))

-- what is asked for of the marks of n rows, found in words, behind that of the rows before them
pub where-word : (rows marks kept new : List Bool) (row n word bits found count : ℕ) → length rows ≡ length marks
    → n ≤ 64 → row + n ≤ length rows → HoldsMarks word rows row n → word < 2 ^ n → HoldsMarks bits marks row n
    → bits_of found count ≡ where_set (bits_of word 64) (bits_of bits 64)
    → kept ≡ where_set (take row rows) (take row marks) → new ≡ kept ++ bits_of found count
    → new ≡ where_set (take (row + n) rows) (take (row + n) marks)
where-word rows marks kept new row n word bits found count same few within read small held is was appended =
    appended
    ∙ ap₂ ◌++◌ was (is ∙ where-few word bits n few small)
    ∙ sym (ap₂ where_set (take-bits rows row n word read) (take-bits marks row n bits held)
    ∙ where-append (take row rows) (bits_of word n) (take row marks) (bits_of bits n) long)
  where
    long : length (take row rows) ≡ length (take row marks)
    long = length-take-le row rows (omega (arith, within)) ∙ sym (length-take-le row marks (omega (arith, within, same)))

-- a word that asks for all
pub where-all-bits : (word bits : ℕ) → word ≡ 18446744073709551615
    → bits_of bits 64 ≡ where_set (bits_of word 64) (bits_of bits 64)
where-all-bits word bits full =
    sym (ap (λ w. where_set (bits_of w 64) (bits_of bits 64)) full
    ∙ where-full (bits_of 18446744073709551615 64) (bits_of bits 64) none (length-bits 18446744073709551615 64
    ∙ sym (length-bits bits 64)))
  where
    none : count_by not (bits_of 18446744073709551615 64) ≡ 0
    none = refl
