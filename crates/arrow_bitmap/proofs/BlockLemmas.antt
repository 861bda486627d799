-- Lemmas about marks that are read and written as eight words at a time.
use Rattle.std.proofs.Common.{◌≡◌, ℕ, zero, suc, ◌+◌, ◌-◌, ◌*◌, ◌/◌, ◌%◌, ◌^◌, ◌<◌, ◌≤◌, ◌==◌, Bool, List, [], ◌∷◌}
use Rattle.std.proofs.Common.{bit_or, max, Fits, w8, w64, length, get_or, replicate, refl, sym, ap, ap₂, ◌∙◌, inl, inr}
use Rattle.std.proofs.Common.{◌&&◌, ◌||◌, bit_and, map, not, arith}
use Rattle.std.specs.Int.{bit_at}
use Rattle.std.proofs.lemmas.Bool.{cases_lt}
use Rattle.std.proofs.lemmas.Nat.{shr-shr}
use Rattle.std.proofs.lemmas.List.{get_or-map}
use Rattle.std.proofs.lemmas.Nat.Bits.{bit_at_above, bit_at_cat_high, bit_at_cat_low, bit_at-lt, bit_at_not}
use Rattle.std.proofs.lemmas.Nat.Bits.{bit_at-zero, bit_at_or}
use Rattle.std.proofs.lemmas.Simd.{below_from_Fits, chunk-fits, Each1-chunk, Each1-get_or, get_or_narrower, get_or_wider}
use Rattle.std.proofs.lemmas.Simd.{get_or-chunk, get_or-put_chunk_at, get_or-put_chunk_below, get_or-replicate}
use Rattle.std.proofs.lemmas.Simd.{get_or-zip2, length-zip2}
use lib.Lanes.{chunk, digits_l, Each1, number_l, put_chunk, zip2}
use Rattle.arrow_types.proofs.CallerLemmas.{and-bit, max-zero, or-bit, other-bit, zero-max}
use Rattle.arrow_bitmap.specs.Marks.{block_mark, mark_at}
use Rattle.arrow_bitmap.proofs.CopyLemmas.{low_bit, shifted_above, shifted_below}
use Rattle.arrow_bitmap.proofs.MarkLemmas.{mark_of_same, pow-256}

-- ---- bytes that are read as words

-- the bits of the number that bytes are
number_l-bit : (xs : List ℕ) → Each1 (λ x. x < 256) xs → (i : ℕ)
    → bit_at (number_l 256 xs) i ≡ bit_at (get_or xs (i / 8) 0) (i % 8)
number_l-bit [] small i = bit_at-zero i ∙ sym (bit_at-zero (i % 8))
number_l-bit (x ∷ xs) small i =
    let joined : x + 256 * number_l 256 xs ≡ number_l 256 xs * 2 ^ 8 + x = omega arith in
    ap (λ n. bit_at n i) joined ∙ elim (cases_lt i 8) [
      | inl low ↦
          bit_at_cat_low (number_l 256 xs) 8 x i low
          ∙ ap₂ (λ j k. bit_at (get_or (x ∷ xs) j 0) k) (let e : 0 ≡ i / 8 = omega arith in
          e) (let e : i ≡ i % 8 = omega arith in e)
      | inr past ↦
          bit_at_cat_high (number_l 256 xs) 8 x i small.0 past
          ∙ number_l-bit xs small.1 (i - 8)
          ∙ ap₂ (λ j k. bit_at (get_or (x ∷ xs) j 0) k) (let e : suc ((i - 8) / 8) ≡ i / 8 = omega arith in
          e) (let e : (i - 8) % 8 ≡ i % 8 = omega arith in e)
    ]

-- words of bytes have the bytes' marks
pub loaded-mark : (bytes : List ℕ) (first n : ℕ) → ((i : ℕ) → Fits w8 (get_or bytes i 0)) → (k : ℕ) → k < 64 * n
    → block_mark (digits_l (2 ^ 64) n (number_l 256 (chunk first (8 * n) bytes))) k ≡ mark_at bytes (8 * first + k)
unfolding block_mark mark_at
loaded-mark bytes first n fits k low =
    let xs = chunk first (8 * n) bytes in
    let word = k / 64 in
    let bit = k % 64 in
    let small = below_from_Fits w8 xs (chunk-fits w8 first (8 * n) bytes fits) in
    let here : first + (8 * word + bit / 8) ≡ (8 * first + k) / 8 = omega arith in
    let inner : bit % 8 ≡ (8 * first + k) % 8 = omega arith in
    ap (λ b. b == 1) (ap (λ m. bit_at m bit) (get_or_wider 256 8 (2 ^ 64) n xs word refl small (omega arith))
    ∙ number_l-bit (chunk (8 * word) 8 xs) (Each1-chunk (λ x. x < 256) (8 * word) 8 xs small) bit
    ∙ ap (λ b. bit_at b (bit % 8)) (get_or-chunk (8 * word) 8 xs (bit / 8) 0 (omega arith)
    ∙ get_or-chunk first (8 * n) bytes (8 * word + bit / 8) 0 (omega arith))
    ∙ ap₂ (λ i j. bit_at (get_or bytes i 0) j) here inner)

-- ---- words that are shifted

-- a bit of one of the words
pub block-bit : (words : List ℕ) (w j : ℕ) → j < 64 → (bit_at (get_or words w 0) j == 1) ≡ block_mark words (64 * w + j)
unfolding block_mark
block-bit words w j low = ap₂ (λ x y. bit_at (get_or words x 0) y == 1) (let e : w ≡ (64 * w + j) / 64 =
    omega arith in e) (let e : j ≡ (64 * w + j) % 64 = omega arith in e)

both-same : (a b : ℕ) (v : Bool) → (a == 1) ≡ v → (b == 1) ≡ v → a < 2 → b < 2 → (max a b == 1) ≡ v
both-same zero zero v e f p q = e
both-same zero (suc zero) v e f p q = f
both-same (suc zero) zero v e f p q = e
both-same (suc zero) (suc zero) v e f p q = e
both-same zero (suc (suc b)) v e f p q = absurd (omega arith)
both-same (suc zero) (suc (suc b)) v e f p q = absurd (omega arith)
both-same (suc (suc a)) b v e f p q = absurd (omega arith)

-- a word's bits from one on, and those that it lacks, from the word that begins eight marks later
module _ (l h shift : ℕ) (small : l < 2 ^ 64) (within : shift < 8) (m : ℕ → Bool)
    (low : (k : ℕ) → k < 64 → (bit_at l k == 1) ≡ m k)
    (high : (k : ℕ) → k < 64 → (bit_at h k == 1) ≡ m (8 + k)) where
  high-bit : (k : ℕ) → k < 64 → 8 - shift ≤ k → (bit_at (h * 2 ^ (8 - shift) % 2 ^ 64) k == 1) ≡ m (shift + k)
  high-bit k inner past =
      let place : k ≡ 8 - shift + (k - (8 - shift)) = omega arith in
      let mark : 8 + (k - (8 - shift)) ≡ shift + k = omega arith in
      ap (λ j. bit_at (h * 2 ^ (8 - shift) % 2 ^ 64) j == 1) place
      ∙ ap (λ b. b == 1) (shifted_above 64 h (8 - shift) (k - (8 - shift)) (omega arith))
      ∙ high (k - (8 - shift)) (omega arith) ∙ ap m mark

  pub moved-bit : (k : ℕ) → k < 64
      → (bit_at (bit_or (l / 2 ^ shift) (h * 2 ^ (8 - shift) % 2 ^ 64)) k == 1) ≡ m (shift + k)
  moved-bit k inner =
      ap (λ b. b == 1) (bit_at_or (l / 2 ^ shift) (h * 2 ^ (8 - shift) % 2 ^ 64) k) ∙ elim (cases_lt (shift + k) 64) [
        | inl here ↦
            let first : (bit_at (l / 2 ^ shift) k == 1) ≡ m (shift + k) =
            ap (λ x. x % 2 == 1) (shr-shr l shift k) ∙ low (shift + k) here in
            elim (cases_lt k (8 - shift)) [
              | inl early ↦ ap (λ b. b == 1) (max-zero _ _ (shifted_below 64 h (8 - shift) k early inner)) ∙ first
              | inr past ↦ both-same _ _ (m (shift + k)) first (high-bit k inner past) (omega arith) (omega arith)
            ]
        | inr over ↦
            ap (λ b. b == 1) (zero-max _ _ (ap (λ x. x % 2) (shr-shr l shift k)
            ∙ bit_at_above l 64 (shift + k) small over))
            ∙ high-bit k inner (omega arith)
      ]

abbrev pub moved : List ℕ → List ℕ → ℕ → List ℕ
moved low high shift = zip2 (λ (a b : ℕ). bit_or a b) (zip2 (λ (a b : ℕ). a / 2 ^ b) low (replicate 8 shift))
    (zip2 (λ (a b : ℕ). a * 2 ^ b % 2 ^ 64) high (replicate 8 (8 - shift)))

pub moved-mark : (low high : List ℕ) (shift : ℕ) (m : ℕ → Bool) → shift < 8 → length low ≡ 8 → length high ≡ 8
    → Each1 (Fits w64) low → ((k : ℕ) → k < 512 → block_mark low k ≡ m k)
    → ((k : ℕ) → k < 512 → block_mark high k ≡ m (8 + k)) → (k : ℕ) → k < 512
    → block_mark (moved low high shift) k ≡ m (shift + k)
unfolding block_mark
moved-mark low high shift m within eight other fits first second k inner =
    let w = k / 64 in
    let j = k % 64 in
    let downs = zip2 (λ (a b : ℕ). a / 2 ^ b) low (replicate 8 shift) in
    let ups = zip2 (λ (a b : ℕ). a * 2 ^ b % 2 ^ 64) high (replicate 8 (8 - shift)) in
    let down_count : length downs ≡ 8 = length-zip2 _ low (replicate 8 shift) eight ∙ eight in
    let up_count : length ups ≡ 8 = length-zip2 _ high (replicate 8 (8 - shift)) other ∙ other in
    let below = below_from_Fits w64 low fits in
    let lane : get_or (moved low high shift) w 0
    ≡ bit_or (get_or low w 0 / 2 ^ shift) (get_or high w 0 * 2 ^ (8 - shift) % 2 ^ 64) =
    get_or-zip2 (λ (a b : ℕ). bit_or a b) downs ups w 0 0 0 (omega (arith, down_count)) (omega (arith, up_count))
    ∙ ap₂ bit_or
    (get_or-zip2 (λ (a b : ℕ). a / 2 ^ b) low (replicate 8 shift) w 0 0 0 (omega (arith, eight)) (omega arith)
    ∙ ap (λ b. get_or low w 0 / 2 ^ b) (get_or-replicate 8 w shift 0 (omega arith)))
    (get_or-zip2 (λ (a b : ℕ). a * 2 ^ b % 2 ^ 64) high (replicate 8 (8 - shift)) w 0 0 0 (omega (arith, other))
    (omega arith)
    ∙ ap (λ b. get_or high w 0 * 2 ^ b % 2 ^ 64) (get_or-replicate 8 w (8 - shift) 0 (omega arith)))
    in
    ap (λ n. bit_at n j == 1) lane
    ∙ moved-bit (get_or low w 0) (get_or high w 0) shift
    (Each1-get_or (λ x. x < 2 ^ 64) low w 0 (omega (arith, eight)) below) within (λ i. m (64 * w + i))
    (λ i lt. block-bit low w i lt ∙ first (64 * w + i) (omega arith))
    (λ i lt. block-bit high w i lt ∙ second (64 * w + i) (omega arith)
    ∙ ap m (let e : 8 + (64 * w + i) ≡ 64 * w + (8 + i) = omega arith in e)) j (omega arith)
    ∙ ap m (let e : 64 * w + (shift + j) ≡ shift + k = omega arith in e)

-- ---- words that are written as bytes

abbrev pub bytes_of : List ℕ → List ℕ
bytes_of words = digits_l 256 64 (number_l (2 ^ 64) words)

module _ (words : List ℕ) (fits : Each1 (Fits w64) words) where
  byte-mark : (i k : ℕ) → i < 64 → k < 8
      → (bit_at (get_or (bytes_of words) i 0) k == 1) ≡ block_mark words (8 * i + k)
  byte-mark i k low inner =
      let j = i / 8 in
      let r = i % 8 in
      let place : i ≡ 8 * j + r = omega arith in
      let mark : 64 * j + (8 * r + k) ≡ 8 * i + k = omega arith in
      ap (λ n. bit_at (get_or (bytes_of words) n 0) k == 1) place
      ∙ ap (λ n. bit_at n k == 1) (get_or_narrower (2 ^ 64) 8 256 64 words j r refl (below_from_Fits w64 words fits)
      (omega arith) (omega arith)
      ∙ ap (λ p. get_or words j 0 / p % 256) (pow-256 r))
      ∙ ap (λ b. b == 1) (low_bit 8 (get_or words j 0 / 2 ^ (8 * r)) k inner
      ∙ ap (λ x. x % 2) (shr-shr (get_or words j 0) (8 * r) k))
      ∙ block-bit words j (8 * r + k) (omega arith) ∙ ap (block_mark words) mark

  pub written-mark : (bytes : List ℕ) (at : ℕ) → at + 64 ≤ length bytes → (k : ℕ) → k < 512
      → mark_at (put_chunk at bytes (bytes_of words)) (8 * at + k) ≡ block_mark words k
  unfolding mark_at
  written-mark bytes at room k low =
      let here : (8 * at + k) / 8 ≡ at + k / 8 = omega arith in
      let inner : (8 * at + k) % 8 ≡ k % 8 = omega arith in
      let mark : 8 * (k / 8) + k % 8 ≡ k = omega arith in
      ap₂ (λ x y. bit_at (get_or (put_chunk at bytes (bytes_of words)) x 0) y == 1) here inner
      ∙ ap (λ b. bit_at b (k % 8) == 1) (get_or-put_chunk_at at bytes (bytes_of words) (k / 8) 0 (omega arith) room)
      ∙ byte-mark (k / 8) (k % 8) (omega arith) (omega arith) ∙ ap (block_mark words) mark

pub kept-mark : (bytes ys : List ℕ) (at i : ℕ) → i < 8 * at → mark_at (put_chunk at bytes ys) i ≡ mark_at bytes i
kept-mark bytes ys at i low =
    mark_of_same (put_chunk at bytes ys) bytes i (get_or-put_chunk_below at bytes ys (i / 8) 0 (omega arith))

-- ---- words that are combined

module _ (left right : List ℕ) (eight : length left ≡ 8) (other : length right ≡ 8) (k : ℕ) (low : k < 512) where
  lane : (f : ℕ → ℕ → ℕ) → get_or (zip2 f left right) (k / 64) 0 ≡ f (get_or left (k / 64) 0) (get_or right (k / 64) 0)
  lane f = get_or-zip2 f left right (k / 64) 0 0 0 (omega (arith, low, eight)) (omega (arith, low, other))

  pub and-block : block_mark (zip2 (λ (a b : ℕ). bit_and a b) left right) k ≡ (block_mark left k && block_mark right k)
  unfolding block_mark
  and-block = ap (λ n. bit_at n (k % 64) == 1) (lane (λ (a b : ℕ). bit_and a b)) ∙ and-bit _ _ (k % 64)

  pub or-block : block_mark (zip2 (λ (a b : ℕ). bit_or a b) left right) k ≡ (block_mark left k || block_mark right k)
  unfolding block_mark
  or-block = ap (λ n. bit_at n (k % 64) == 1) (lane (λ (a b : ℕ). bit_or a b)) ∙ or-bit _ _ (k % 64)

pub not-block : (words : List ℕ) → length words ≡ 8 → Each1 (Fits w64) words → (k : ℕ) → k < 512
    → block_mark (map (λ (a : ℕ). 2 ^ 64 - 1 - a) words) k ≡ not (block_mark words k)
unfolding block_mark
not-block words eight fits k low =
    let w = k / 64 in
    let word = get_or words w 0 in
    let inside : w < length words = omega (arith, low, eight) in
    let small : word < 2 ^ 64 = Each1-get_or (λ x. x < 2 ^ 64) words w 0 inside (below_from_Fits w64 words fits) in
    ap (λ n. bit_at n (k % 64) == 1) (get_or-map (λ (a : ℕ). 2 ^ 64 - 1 - a) words w 0 0 inside)
    ∙ ap (λ b. b == 1) (bit_at_not w64 word (k % 64) small (omega arith))
    ∙ other-bit (bit_at word (k % 64)) (bit_at-lt word (k % 64))
