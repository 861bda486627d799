-- Lemmas about marks that are the bits of words.
use Rattle.std.proofs.Common.{◌≡◌, ◌≢◌, ℕ, ◌+◌, ◌-◌, ◌*◌, ◌/◌, ◌%◌, ◌^◌, ◌<◌, ◌≤◌, ◌==◌, max, bit_or, Bool, true, false}
use Rattle.std.proofs.Common.{List, ◌++◌, Some, slice_get, get_or, length, refl, sym, ap, ap₂, subst, ◌∙◌, ◌⊎◌, inl, inr}
use Rattle.std.proofs.Common.{arith, zero, suc, w64}
use Rattle.std.proofs.Common.{drop, replicate, take}
use Rattle.std.proofs.Math.Seq.{take-append_seam}
use Rattle.std.specs.Int.{bit_at, from_bool, to_le_bytes}
use Rattle.std.proofs.lemmas.Bool.{cases_eq, cases_lt}
use Rattle.std.proofs.lemmas.List.{same_lists}
use Rattle.std.proofs.lemmas.List.FromFn.{get_or-map-range_with_len, length-map-range_with_len}
use Rattle.std.proofs.lemmas.Nat.{pow_pos}
use Rattle.std.proofs.lemmas.Nat.Bits.{bit_at_above, bit_at_or, bit_at_cat_high, bit_at_cat_low, bit_at-pow_other}
use Rattle.std.proofs.lemmas.Nat.Bits.{bit_at-zero}
use Rattle.std.proofs.lemmas.Option.{get_or_from_slice_get}
use Rattle.arrow_types.proofs.CallerLemmas.{all-ones, max-zero, moved-bit, placed, placed-is, placed-other, placed-same, zero-max}
use Rattle.arrow_memory.specs.Marks.{block_mark, mark_at, marks}
use Rattle.std.proofs.lemmas.Simd.{get_or-put_chunk_at, get_or-put_chunk_below, get_or-replicate}
use lib.Lanes.{put_chunk}
use Rattle.compute_base.specs.Words.{HasMarks, HoldsBlock, HoldsMarks}

-- ---- a word of which one bit more is written

-- the first i marks from a place on are the bits of a word, and no bit above them is set
pub record HoldsFirst (word : ℕ) (marks : List Bool) (place i : ℕ) : Type 0 where
  pub below : HoldsMarks word marks place i
  pub above : (k : ℕ) → i ≤ k → bit_at word k ≡ 0

pub no-bits : (marks : List Bool) (place : ℕ) → HoldsFirst 0 marks place 0
no-bits marks place = record { below = λ k low. absurd (omega arith); above = λ k le. bit_at-zero k }

-- one mark more, in a word of n bits
pub one-bit : (n word : ℕ) (marks : List Bool) (place i : ℕ) (b : Bool) → i < n → slice_get marks (place + i) ≡ Some b
    → HoldsFirst word marks place i → HoldsFirst (bit_or word (from_bool b * 2 ^ i % 2 ^ n)) marks place (i + 1)
one-bit n word marks place i b low is had = record {
  below = λ k within. at k within (cases_eq k i);
  above = λ k le. or-bit k ∙ max-zero _ _ (placed-other b i k (λ e. absurd (omega arith))) ∙ had.above k (omega arith);
}
  where
    or-bit : (k : ℕ)
        → bit_at (bit_or word (from_bool b * 2 ^ i % 2 ^ n)) k ≡ max (bit_at word k) (bit_at (placed b i) k)
    or-bit k = bit_at_or word (from_bool b * 2 ^ i % 2 ^ n) k
        ∙ ap (λ m. max (bit_at word k) (bit_at m k)) (placed-is n b i low)

    at : (k : ℕ) → k < i + 1 → (k ≡ i) ⊎ (k ≢ i)
        → slice_get marks (place + k) ≡ Some (bit_at (bit_or word (from_bool b * 2 ^ i % 2 ^ n)) k == 1)
    at k within (inl e) = ap (λ j. slice_get marks (place + j)) e ∙ is ∙ ap Some (sym (
        ap (λ bit. bit == 1) (or-bit k ∙ zero-max _ _ (had.above k (omega (arith, e))))
        ∙ ap (λ j. bit_at (placed b i) j == 1) e ∙ placed-same b i))
    at k within (inr apart) = had.below k (omega (arith, apart)) ∙ ap (λ bit. Some (bit == 1)) (sym (
        or-bit k ∙ max-zero _ _ (placed-other b i k apart)))

pub all-bits : (word : ℕ) (marks : List Bool) (place i n : ℕ) → n ≤ i → HoldsFirst word marks place i
    → HoldsMarks word marks place n
all-bits word marks place i n le had k low = had.below k (omega arith)

-- ---- a word that is shifted to the left

low-bit : (n k : ℕ) → k < 64 → bit_at (n % 2 ^ 64) k ≡ bit_at n k
low-bit n k low = sym (bit_at_cat_low (n / 2 ^ 64) 64 (n % 2 ^ 64) k low)
    ∙ ap (λ m. bit_at m k) (let whole : n / 2 ^ 64 * 2 ^ 64 + n % 2 ^ 64 ≡ n = omega arith in whole)

module _ (word s : ℕ) where
  nothing-behind : word * 2 ^ s ≡ word * 2 ^ s + 0
  nothing-behind = omega arith

  shifted-low : (k : ℕ) → k < 64 → k < s → bit_at (word * 2 ^ s % 2 ^ 64) k ≡ 0
  shifted-low k low below = low-bit (word * 2 ^ s) k low ∙ ap (λ m. bit_at m k) nothing-behind
      ∙ bit_at_cat_low word s 0 k below ∙ bit_at-zero k

  shifted-high : (k : ℕ) → k < 64 → s ≤ k → bit_at (word * 2 ^ s % 2 ^ 64) k ≡ bit_at word (k - s)
  shifted-high k low le = low-bit (word * 2 ^ s) k low ∙ ap (λ m. bit_at m k) nothing-behind
      ∙ bit_at_cat_high word s 0 k (pow_pos s) le

  shifted-above : (k : ℕ) → 64 ≤ k → bit_at (word * 2 ^ s % 2 ^ 64) k ≡ 0
  shifted-above k above = bit_at_above (word * 2 ^ s % 2 ^ 64) 64 k (let m : word * 2 ^ s % 2 ^ 64 < 2 ^ 64 = omega arith in m)
      above

-- ---- four words of which each holds every fourth mark

-- bit 4 * m is mark 4 * m behind a place, for t of them, and no other bit is set
pub record HoldsFourth (lane : ℕ) (marks : List Bool) (start t : ℕ) : Type 0 where
  pub each : (m : ℕ) → m < t → slice_get marks (start + 4 * m) ≡ Some (bit_at lane (4 * m) == 1)
  pub clear : (k : ℕ) → (k % 4 ≢ 0) ⊎ (4 * t ≤ k) → bit_at lane k ≡ 0

none-held : (marks : List Bool) (start : ℕ) → HoldsFourth 0 marks start 0
none-held marks start = record { each = λ m low. absurd (omega arith); clear = λ k out. bit_at-zero k }

first-bit : (bit : ℕ) (b : Bool) → bit ≡ from_bool b → (bit_at bit 0 == 1) ≡ b
first-bit bit true e = ap (λ n. bit_at n 0 == 1) e
first-bit bit false e = ap (λ n. bit_at n 0 == 1) e

later-bit : (bit : ℕ) (b : Bool) → bit ≡ from_bool b → (k : ℕ) → k ≢ 0 → bit_at bit k ≡ 0
later-bit bit true e k apart = ap (λ n. bit_at n k) e ∙ bit_at-pow_other 0 k apart
later-bit bit false e k apart = ap (λ n. bit_at n k) e ∙ bit_at-zero k

-- a word that is shifted by four bits, and a bit before them
abbrev pub behind : ℕ → ℕ → ℕ
behind lane bit = bit_or (lane * 2 ^ 4 % 2 ^ 64) bit

-- a mark before those that a word holds
module _ (lane : ℕ) (marks : List Bool) (start t : ℕ) (b : Bool) (bit : ℕ) (few : t < 16) (is_bit : bit ≡ from_bool b)
    (is : slice_get marks start ≡ Some b) (had : HoldsFourth lane marks (start + 4) t) where
  either : (k : ℕ) → bit_at (behind lane bit) k ≡ max (bit_at (lane * 2 ^ 4 % 2 ^ 64) k) (bit_at bit k)
  either k = bit_at_or (lane * 2 ^ 4 % 2 ^ 64) bit k

  moved-out : (k : ℕ) → (k % 4 ≢ 0) ⊎ (4 * (t + 1) ≤ k) → bit_at (lane * 2 ^ 4 % 2 ^ 64) k ≡ 0
  moved-out k out = elim (cases_lt k 64) [
    | inr above ↦ shifted-above lane 4 k above
    | inl low ↦ elim (cases_lt k 4) [
      | inl below ↦ shifted-low lane 4 k low below
      | inr past ↦ shifted-high lane 4 k low past ∙ had.clear (k - 4) (elim out [
        | inl other ↦ inl (λ e. other (omega (arith, e, past)))
        | inr end ↦ inr (omega (arith, end))
      ])
    ]
  ]

  not-first : (k : ℕ) → (k % 4 ≢ 0) ⊎ (4 * (t + 1) ≤ k) → k ≢ 0
  not-first k (inl other) e = other (omega (arith, e))
  not-first k (inr end) e = absurd (omega (arith, e, end))

  each-behind : (m : ℕ) → m < t + 1 → slice_get marks (start + 4 * m) ≡ Some (bit_at (behind lane bit) (4 * m) == 1)
  each-behind zero low =
      let here : start + 4 * 0 ≡ start = omega arith in
      ap (slice_get marks) here ∙ is ∙ ap Some (sym (ap (λ n. n == 1) (either 0
      ∙ zero-max _ _ (shifted-low lane 4 0 (omega arith) (omega arith))) ∙ first-bit bit b is_bit))
  each-behind (suc m) low =
      let there : start + 4 * suc m ≡ start + 4 + 4 * m = omega arith in
      let before : 4 * suc m - 4 ≡ 4 * m = omega arith in
      ap (slice_get marks) there ∙ had.each m (omega arith) ∙ ap (λ n. Some (n == 1)) (sym (
      either (4 * suc m) ∙ max-zero _ _ (later-bit bit b is_bit (4 * suc m) (λ e. absurd (omega (arith, e))))
      ∙ shifted-high lane 4 (4 * suc m) (omega (arith, low, few)) (omega arith) ∙ ap (bit_at lane) before))

  one-before : HoldsFourth (behind lane bit) marks start (t + 1)
  one-before = record {
    each = each-behind;
    clear = λ k out. either k ∙ max-zero _ _ (later-bit bit b is_bit k (not-first k out)) ∙ moved-out k out;
  }

-- the words hold t of every fourth mark, from as many places on
pub record HoldFourths (a b c d : ℕ) (marks : List Bool) (start t : ℕ) : Type 0 where
  pub first : HoldsFourth a marks start t
  pub second : HoldsFourth b marks (start + 1) t
  pub third : HoldsFourth c marks (start + 2) t
  pub fourth : HoldsFourth d marks (start + 3) t

pub no-fourths : (marks : List Bool) (start : ℕ) → HoldFourths 0 0 0 0 marks start 0
no-fourths marks start = record {
  first = none-held marks start;
  second = none-held marks (start + 1);
  third = none-held marks (start + 2);
  fourth = none-held marks (start + 3);
}

module _ (first second third fourth : ℕ) (marks : List Bool) (start t : ℕ) (few : t < 16)
    (had : HoldFourths first second third fourth marks (start + 4) t) where
  turned : (i : ℕ) → start + 4 + i ≡ start + i + 4
  turned i = omega arith

  pub four-before : (a b c d : Bool) (bit bit_b bit_c bit_d : ℕ) → bit ≡ from_bool a → bit_b ≡ from_bool b
      → bit_c ≡ from_bool c → bit_d ≡ from_bool d → slice_get marks start ≡ Some a
      → slice_get marks (start + 1) ≡ Some b → slice_get marks (start + 2) ≡ Some c
      → slice_get marks (start + 3) ≡ Some d
      → HoldFourths (behind first bit) (behind second bit_b) (behind third bit_c) (behind fourth bit_d) marks start (t + 1)
  four-before a b c d bit bit_b bit_c bit_d e e_b e_c e_d is is_b is_c is_d = record {
    first = one-before first marks start t a bit few e is had.first;
    second = one-before second marks (start + 1) t b bit_b few e_b is_b
        (subst (λ j. HoldsFourth second marks j t) (turned 1) had.second);
    third = one-before third marks (start + 2) t c bit_c few e_c is_c
        (subst (λ j. HoldsFourth third marks j t) (turned 2) had.third);
    fourth = one-before fourth marks (start + 3) t d bit_d few e_d is_d
        (subst (λ j. HoldsFourth fourth marks j t) (turned 3) had.fourth);
  }

-- what a word of sixteen marks says of the word of all, if it is shifted to its place
module _ (lane : ℕ) (marks : List Bool) (place s : ℕ) (few : s < 4) (holds : HoldsFourth lane marks (place + s) 16)
    (k : ℕ) (low : k < 64) where
  silent : k % 4 ≢ s → bit_at (lane * 2 ^ s % 2 ^ 64) k ≡ 0
  silent other = elim (cases_lt k s) [
    | inl below ↦ shifted-low lane s k low below
    | inr past ↦ shifted-high lane s k low past ∙ holds.clear (k - s) (inl (λ e. other (omega (arith, e, past))))
  ]

  said : k % 4 ≡ s → slice_get marks (place + k) ≡ Some (bit_at (lane * 2 ^ s % 2 ^ 64) k == 1)
  said same =
      let j : place + k ≡ place + s + 4 * (k / 4) = omega (arith, same) in
      let at : k - s ≡ 4 * (k / 4) = omega (arith, same) in
      ap (slice_get marks) j ∙ holds.each (k / 4) (omega (arith, low)) ∙ ap (λ bit. Some (bit == 1)) (sym (
      shifted-high lane s k low (omega (arith, same)) ∙ ap (bit_at lane) at))

module _ (first second third fourth : ℕ) (marks : List Bool) (place : ℕ)
    (hold : HoldFourths first second third fourth marks place 16) where
  abbrev joined : ℕ
  joined = bit_or (bit_or (bit_or first (second * 2 ^ 1 % 2 ^ 64)) (third * 2 ^ 2 % 2 ^ 64)) (fourth * 2 ^ 3 % 2 ^ 64)

  pub all-fourths : HoldsMarks joined marks place 64
  all-fourths k low = at (k % 4) refl
    where
      any : bit_at joined k ≡ max (max (max (bit_at first k) (bit_at (second * 2 ^ 1 % 2 ^ 64) k))
          (bit_at (third * 2 ^ 2 % 2 ^ 64) k)) (bit_at (fourth * 2 ^ 3 % 2 ^ 64) k)
      any = bit_at_or (bit_or (bit_or first (second * 2 ^ 1 % 2 ^ 64)) (third * 2 ^ 2 % 2 ^ 64)) (fourth * 2 ^ 3 % 2 ^ 64) k
          ∙ ap (λ m. max m (bit_at (fourth * 2 ^ 3 % 2 ^ 64) k))
          (bit_at_or (bit_or first (second * 2 ^ 1 % 2 ^ 64)) (third * 2 ^ 2 % 2 ^ 64) k
          ∙ ap (λ m. max m (bit_at (third * 2 ^ 2 % 2 ^ 64) k)) (bit_at_or first (second * 2 ^ 1 % 2 ^ 64) k))

      firsts : k % 4 ≢ 0 → bit_at first k ≡ 0
      firsts other = hold.first.clear k (inl other)

      seconds : k % 4 ≢ 1 → bit_at (second * 2 ^ 1 % 2 ^ 64) k ≡ 0
      seconds = silent second marks place 1 (omega arith) hold.second k low

      thirds : k % 4 ≢ 2 → bit_at (third * 2 ^ 2 % 2 ^ 64) k ≡ 0
      thirds = silent third marks place 2 (omega arith) hold.third k low

      fourths : k % 4 ≢ 3 → bit_at (fourth * 2 ^ 3 % 2 ^ 64) k ≡ 0
      fourths = silent fourth marks place 3 (omega arith) hold.fourth k low

      apart : (i j : ℕ) → k % 4 ≡ i → i ≢ j → k % 4 ≢ j
      apart i j same other e = other (sym same ∙ e)

      at : (i : ℕ) → k % 4 ≡ i → slice_get marks (place + k) ≡ Some (bit_at joined k == 1)
      at zero same =
          let j : place + k ≡ place + 4 * (k / 4) = omega (arith, same) in
          let whole : 4 * (k / 4) ≡ k = omega (arith, same) in
          let alone : bit_at joined k ≡ bit_at first k = omega (
            arith,
            any,
            same,
            seconds (apart 0 1 same (λ e. absurd (omega (arith, e)))),
            thirds (apart 0 2 same (λ e. absurd (omega (arith, e)))),
            fourths (apart 0 3 same (λ e. absurd (omega (arith, e)))),
          ) in
          ap (slice_get marks) j ∙ hold.first.each (k / 4) (omega (arith, low))
          ∙ ap (λ bit. Some (bit == 1)) (ap (bit_at first) whole ∙ sym alone)
      at (suc zero) same =
          let alone : bit_at joined k ≡ bit_at (second * 2 ^ 1 % 2 ^ 64) k = omega (
            arith,
            any,
            firsts (apart 1 0 same (λ e. absurd (omega (arith, e)))),
            thirds (apart 1 2 same (λ e. absurd (omega (arith, e)))),
            fourths (apart 1 3 same (λ e. absurd (omega (arith, e)))),
          ) in
          said second marks place 1 (omega arith) hold.second k low same ∙ ap (λ bit. Some (bit == 1)) (sym alone)
      at (suc (suc zero)) same =
          let alone : bit_at joined k ≡ bit_at (third * 2 ^ 2 % 2 ^ 64) k = omega (
            arith,
            any,
            firsts (apart 2 0 same (λ e. absurd (omega (arith, e)))),
            seconds (apart 2 1 same (λ e. absurd (omega (arith, e)))),
            fourths (apart 2 3 same (λ e. absurd (omega (arith, e)))),
          ) in
          said third marks place 2 (omega arith) hold.third k low same ∙ ap (λ bit. Some (bit == 1)) (sym alone)
      at (suc (suc (suc zero))) same =
          let alone : bit_at joined k ≡ bit_at (fourth * 2 ^ 3 % 2 ^ 64) k = omega (
            arith,
            any,
            firsts (apart 3 0 same (λ e. absurd (omega (arith, e)))),
            seconds (apart 3 1 same (λ e. absurd (omega (arith, e)))),
            thirds (apart 3 2 same (λ e. absurd (omega (arith, e)))),
          ) in
          said fourth marks place 3 (omega arith) hold.fourth k low same ∙ ap (λ bit. Some (bit == 1)) (sym alone)
      at (suc (suc (suc (suc i)))) same = absurd (omega (arith, same))

-- ---- a word that is written as eight bytes

byte-bit : (n b : ℕ) → b < 8 → bit_at (n % 256) b ≡ bit_at n b
byte-bit n b low = sym (bit_at_cat_low (n / 256) 8 (n % 256) b low)
    ∙ ap (λ m. bit_at m b) (let whole : n / 256 * 256 + n % 256 ≡ n = omega arith in whole)

later-byte : (word s b : ℕ) → b < 8 → bit_at (word / 2 ^ s % 256) b ≡ bit_at word (s + b)
later-byte word s b low = byte-bit (word / 2 ^ s) b low ∙ moved-bit word s b

le-byte : (word q b : ℕ) → q < 8 → b < 8 → bit_at (get_or (to_le_bytes w64 word) q 0) b ≡ bit_at word (8 * q + b)
le-byte word zero b few low = byte-bit word b low ∙ ap (bit_at word) (let e : b ≡ 8 * 0 + b = omega arith in e)
le-byte word (suc zero) b few low = later-byte word 8 b low
le-byte word (suc (suc zero)) b few low = later-byte word 16 b low
le-byte word (suc (suc (suc zero))) b few low = later-byte word 24 b low
le-byte word (suc (suc (suc (suc zero)))) b few low = later-byte word 32 b low
le-byte word (suc (suc (suc (suc (suc zero))))) b few low = later-byte word 40 b low
le-byte word (suc (suc (suc (suc (suc (suc zero)))))) b few low = later-byte word 48 b low
le-byte word (suc (suc (suc (suc (suc (suc (suc zero))))))) b few low = later-byte word 56 b low
le-byte word (suc (suc (suc (suc (suc (suc (suc (suc q)))))))) b few low = absurd (omega arith)

-- the marks of bytes over which a word is written: its bits, and those before
pub written-marks : (bytes : List ℕ) (word at : ℕ) → at + 8 ≤ length bytes → (k : ℕ) → k < 64
    → mark_at (put_chunk at bytes (to_le_bytes w64 word)) (8 * at + k) ≡ (bit_at word k == 1)
unfolding mark_at
written-marks bytes word at room k low =
    let place : (8 * at + k) / 8 ≡ at + k / 8 = omega arith in
    let bit : (8 * at + k) % 8 ≡ k % 8 = omega arith in
    let whole : 8 * (k / 8) + k % 8 ≡ k = omega arith in
    ap₂ (λ i b. bit_at (get_or (put_chunk at bytes (to_le_bytes w64 word)) i 0) b == 1) place bit
    ∙ ap (λ byte. bit_at byte (k % 8) == 1)
    (get_or-put_chunk_at at bytes (to_le_bytes w64 word) (k / 8) 0 (omega arith) room)
    ∙ ap (λ bit. bit == 1) (le-byte word (k / 8) (k % 8) (omega arith) (omega arith))
    ∙ ap (λ j. bit_at word j == 1) whole

pub kept-marks : (bytes : List ℕ) (word at i : ℕ) → i < 8 * at
    → mark_at (put_chunk at bytes (to_le_bytes w64 word)) i ≡ mark_at bytes i
unfolding mark_at
kept-marks bytes word at i low = ap (λ byte. bit_at byte (i % 8) == 1)
    (get_or-put_chunk_below at bytes (to_le_bytes w64 word) (i / 8) 0 (omega arith))

-- all bytes of a vector over which others are written
pub all-written : (made old : List ℕ) (len : ℕ) → len ≡ length made → take len (made ++ drop (length made) old) ≡ made
all-written made old len same = ap (λ k. take k (made ++ drop (length made) old)) same
    ∙ take-append_seam made (drop (length made) old)

-- ---- all words of a bitmap

pub no-marks : (truths : List Bool) (bytes : List ℕ) → HasMarks truths bytes 0
no-marks truths bytes k low = absurd (omega arith)

-- the first marks of a word more
pub more-marks : (truths : List Bool) (old new : List ℕ) (i word count : ℕ) → HasMarks truths old (64 * i)
    → ((k : ℕ) → k < 8 * (8 * i) → mark_at new k ≡ mark_at old k)
    → ((k : ℕ) → k < 64 → mark_at new (8 * (8 * i) + k) ≡ (bit_at word k == 1)) → count ≤ 64
    → HoldsMarks word truths (64 * i) count → HasMarks truths new (64 * i + count)
more-marks truths old new i word count had kept last few holds k low = elim (cases_lt k (64 * i)) [
  | inl below ↦ had k below ∙ ap Some (sym (kept k (omega arith)))
  | inr above ↦
      let place : k ≡ 64 * i + (k - 64 * i) = omega arith in
      let at : 8 * (8 * i) + (k - 64 * i) ≡ k = omega arith in
      ap (slice_get truths) place ∙ holds (k - 64 * i) (omega arith)
      ∙ ap Some (sym (last (k - 64 * i) (omega arith)) ∙ ap (mark_at new) at)
]

-- the first marks of a block more
pub more-block : (truths : List Bool) (old new : List ℕ) (i : ℕ) (words : List ℕ) → HasMarks truths old (512 * i)
    → ((k : ℕ) → k < 8 * (64 * i) → mark_at new k ≡ mark_at old k)
    → ((k : ℕ) → k < 512 → mark_at new (8 * (64 * i) + k) ≡ block_mark words k) → HoldsBlock words truths (512 * i)
    → HasMarks truths new (512 * i + 512)
more-block truths old new i words had kept last holds k low = elim (cases_lt k (512 * i)) [
  | inl below ↦ had k below ∙ ap Some (sym (kept k (omega arith)))
  | inr above ↦
      let place : k ≡ 512 * i + (k - 512 * i) = omega arith in
      let at : 8 * (64 * i) + (k - 512 * i) ≡ k = omega arith in
      ap (slice_get truths) place ∙ holds (k - 512 * i) (omega arith)
      ∙ ap Some (sym (last (k - 512 * i) (omega arith)) ∙ ap (mark_at new) at)
]

-- the marks of words of ones
pub all-set_block : (k : ℕ) → k < 512 → block_mark (replicate 8 (2 ^ 64 - 1)) k ≡ true
unfolding block_mark
all-set_block k low = ap (λ word. bit_at word (k % 64) == 1) (get_or-replicate 8 (k / 64) (2 ^ 64 - 1) 0 (omega arith))
    ∙ all-ones (k % 64) (omega arith)

pub all-marks : (truths : List Bool) (bytes : List ℕ) (n : ℕ) → HasMarks truths bytes n → n ≡ length truths
    → marks bytes 0 n ≡ truths
unfolding marks
all-marks truths bytes n had same = same_lists (marks bytes 0 n) truths
    (length-map-range_with_len (mark_at bytes) 0 n ∙ same) (λ k d within.
    let low : k < n = subst (λ m. k < m) (length-map-range_with_len (mark_at bytes) 0 n) within in
    get_or-map-range_with_len (mark_at bytes) 0 n k k d low (omega arith)
    ∙ sym (get_or_from_slice_get truths k (mark_at bytes k) d (had k low)))
