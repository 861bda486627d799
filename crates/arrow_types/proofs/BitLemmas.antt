-- Lemmas about the bits of words.
use Rattle.std.proofs.Common.{◌≡◌, ◌≢◌, ℕ, zero, suc, ◌+◌, ◌-◌, ◌*◌, ◌/◌, ◌%◌, ◌^◌, ◌<◌, ◌≤◌, ◌==◌, ◌&&◌, ◌||◌, min}
use Rattle.std.proofs.Common.{max, bit_and, bit_or, w64, Bool, true, false, not, if◌then◌else◌, refl, sym, ap, ◌∙◌}
use Rattle.std.proofs.Common.{inl, inr, arith}
use Rattle.std.specs.Int.{bit_at, from_bool, trailing_zeros}
use Rattle.std.specs.Int.Count.{ones, ones_in}
use Rattle.std.proofs.lemmas.Bool.{cases_lt}
use Rattle.std.proofs.lemmas.Nat.{one_shl, shr-shr, shr_le}
use Rattle.std.proofs.lemmas.Nat.Bits.{bit_at_above, bit_at_and, bit_at-lt, bit_at_not, bit_at_ones, bit_at_or}
use Rattle.std.proofs.lemmas.Nat.Bits.{bit_at-pow_other, bit_at-pow_same, bit_at-trailing_zeros, bit_at-zero}

-- ---- one bit

both-set : (a b : ℕ) → a < 2 → b < 2 → (min a b == 1) ≡ ((a == 1) && (b == 1))
both-set zero zero p q = refl
both-set zero (suc zero) p q = refl
both-set (suc zero) zero p q = refl
both-set (suc zero) (suc zero) p q = refl
both-set zero (suc (suc b)) p q = absurd (omega arith)
both-set (suc zero) (suc (suc b)) p q = absurd (omega arith)
both-set (suc (suc a)) b p q = absurd (omega arith)

one-set : (a b : ℕ) → a < 2 → b < 2 → (max a b == 1) ≡ ((a == 1) || (b == 1))
one-set zero zero p q = refl
one-set zero (suc zero) p q = refl
one-set (suc zero) zero p q = refl
one-set (suc zero) (suc zero) p q = refl
one-set zero (suc (suc b)) p q = absurd (omega arith)
one-set (suc zero) (suc (suc b)) p q = absurd (omega arith)
one-set (suc (suc a)) b p q = absurd (omega arith)

pub other-bit : (a : ℕ) → a < 2 → (1 - a == 1) ≡ not (a == 1)
other-bit zero p = refl
other-bit (suc zero) p = refl
other-bit (suc (suc a)) p = absurd (omega arith)

-- ---- the bits of words that are made of others, as booleans

pub and-bit : (x y k : ℕ) → (bit_at (bit_and x y) k == 1) ≡ ((bit_at x k == 1) && (bit_at y k == 1))
and-bit x y k = ap (λ b. b == 1) (bit_at_and x y k) ∙ both-set (bit_at x k) (bit_at y k) (bit_at-lt x k) (bit_at-lt y k)

pub or-bit : (x y k : ℕ) → (bit_at (bit_or x y) k == 1) ≡ ((bit_at x k == 1) || (bit_at y k == 1))
or-bit x y k = ap (λ b. b == 1) (bit_at_or x y k) ∙ one-set (bit_at x k) (bit_at y k) (bit_at-lt x k) (bit_at-lt y k)

pub not-bit : (x k : ℕ) → x < 2 ^ 64 → k < 64 → (bit_at (2 ^ 64 - 1 - x) k == 1) ≡ not (bit_at x k == 1)
not-bit x k small low = ap (λ b. b == 1) (bit_at_not w64 x k small low) ∙ other-bit (bit_at x k) (bit_at-lt x k)

pub all-ones : (k : ℕ) → k < 64 → (bit_at (2 ^ 64 - 1) k == 1) ≡ true
all-ones k low = ap (λ b. b == 1) (bit_at_ones 64 k low)

-- ---- the number of bits that are set

pub ones-zero : ones 0 ≡ 0
unfolding ones ones_in
ones-zero = refl

-- ---- a word of which one bit may be set

-- a boolean at a place of a word
pub placed : Bool → ℕ → ℕ
placed b i = if b then 2 ^ i else 0

pub placed-is : (n : ℕ) (b : Bool) (i : ℕ) → i < n → from_bool b * 2 ^ i % 2 ^ n ≡ placed b i
unfolding placed
placed-is n true i low = one_shl i n low
placed-is n false i low = let none : 0 * 2 ^ i ≡ 0 = omega arith in ap (λ m. m % 2 ^ n) none ∙ none-left n
  where
    none-left : (n : ℕ) → 0 % 2 ^ n ≡ 0
    none-left n = omega arith

pub placed-same : (b : Bool) (i : ℕ) → (bit_at (placed b i) i == 1) ≡ b
unfolding placed
placed-same true i = ap (λ bit. bit == 1) (bit_at-pow_same i)
placed-same false i = ap (λ bit. bit == 1) (bit_at-zero i)

pub placed-other : (b : Bool) (i k : ℕ) → k ≢ i → bit_at (placed b i) k ≡ 0
unfolding placed
placed-other true i k apart = bit_at-pow_other i k apart
placed-other false i k apart = bit_at-zero k

-- ---- the bits of a word from a place on

-- the word moved down to a place has the bits from there on
pub moved-bit : (word from k : ℕ) → bit_at (word / 2 ^ from) k ≡ bit_at word (from + k)
moved-bit word from k = ap (λ n. n % 2) (shr-shr word from k)

pub bit-from : (word from k : ℕ) → from ≤ k → bit_at word k ≡ bit_at (word / 2 ^ from) (k - from)
bit-from word from k low = ap (bit_at word) (let e : k ≡ from + (k - from) = omega arith in e)
    ∙ sym (moved-bit word from (k - from))

module _ (word from : ℕ) (fits : word < 2 ^ 64) where
  -- where no bit is left
  pub no-bit_left : word / 2 ^ from ≡ 0 → (k : ℕ) → from ≤ k → bit_at word k ≡ 0
  no-bit_left none k low = bit-from word from k low ∙ ap (λ n. bit_at n (k - from)) none ∙ bit_at-zero (k - from)

  module _ (some : 0 < word / 2 ^ from) where
    moved-fits : word / 2 ^ from < 2 ^ 64
    moved-fits = omega (arith, fits, shr_le word from)

    -- the next bit that is set
    pub next-bit_set : bit_at word (from + trailing_zeros w64 (word / 2 ^ from)) ≡ 1
    next-bit_set = sym (moved-bit word from (trailing_zeros w64 (word / 2 ^ from)))
        ∙ (bit_at-trailing_zeros w64 (word / 2 ^ from) some moved-fits).1

    pub next-bit_within : from + trailing_zeros w64 (word / 2 ^ from) < 64
    next-bit_within = elim (cases_lt (from + trailing_zeros w64 (word / 2 ^ from)) 64) [
      | inl low ↦ low
      | inr past ↦ absurd (omega (
        arith,
        next-bit_set,
        bit_at_above word 64 (from + trailing_zeros w64 (word / 2 ^ from)) fits past,
      ))
    ]

    pub next-bit_gap : (k : ℕ) → from ≤ k → k < from + trailing_zeros w64 (word / 2 ^ from) → bit_at word k ≡ 0
    next-bit_gap k low high =
        bit-from word from k low ∙ (bit_at-trailing_zeros w64 (word / 2 ^ from) some moved-fits).2 (k - from)
        (omega arith)
