-- Lemmas about comparisons of booleans, also of those that are the bits of words.
use Rattle.std.proofs.Common.{◌≡◌, ℕ, zero, suc, ◌+◌, ◌%◌, ◌<◌, ◌==◌, ◌&&◌, ◌||◌, Bool, true, false, not, bit_xor}
use Rattle.std.proofs.Common.{ap, refl, ◌∙◌, arith}
use Rattle.std.specs.Int.{bit_at}
use Rattle.std.specs.Ordering.{bool_cmp, is_eq, is_ge, is_gt, is_le, is_lt, is_ne}
use Rattle.std.proofs.lemmas.Nat.Bits.{bit_at-lt, bit_at_xor}

-- ---- the bits of words

unlike_bits : (a b : ℕ) → a < 2 → b < 2 → ((a + b) % 2 == 1) ≡ is_ne (bool_cmp (a == 1) (b == 1))
unlike_bits zero zero p q = refl
unlike_bits zero (suc zero) p q = refl
unlike_bits (suc zero) zero p q = refl
unlike_bits (suc zero) (suc zero) p q = refl
unlike_bits zero (suc (suc b)) p q = absurd (omega arith)
unlike_bits (suc zero) (suc (suc b)) p q = absurd (omega arith)
unlike_bits (suc (suc a)) b p q = absurd (omega arith)

pub xor_bit : (x y k : ℕ) → (bit_at (bit_xor x y) k == 1) ≡ is_ne (bool_cmp (bit_at x k == 1) (bit_at y k == 1))
xor_bit x y k = ap (λ b. b == 1) (bit_at_xor x y k)
    ∙ unlike_bits (bit_at x k) (bit_at y k) (bit_at-lt x k) (bit_at-lt y k)

-- ---- comparisons of booleans

pub not_ne : (a b : Bool) → not (is_ne (bool_cmp a b)) ≡ is_eq (bool_cmp a b)
not_ne true true = refl
not_ne true false = refl
not_ne false true = refl
not_ne false false = refl

pub bool_lt : (a b : Bool) → (not a && b) ≡ is_lt (bool_cmp a b)
bool_lt true true = refl
bool_lt true false = refl
bool_lt false true = refl
bool_lt false false = refl

pub bool_le : (a b : Bool) → (not a || b) ≡ is_le (bool_cmp a b)
bool_le true true = refl
bool_le true false = refl
bool_le false true = refl
bool_le false false = refl

pub bool_gt : (a b : Bool) → (a && not b) ≡ is_gt (bool_cmp a b)
bool_gt true true = refl
bool_gt true false = refl
bool_gt false true = refl
bool_gt false false = refl

pub bool_ge : (a b : Bool) → (a || not b) ≡ is_ge (bool_cmp a b)
bool_ge true true = refl
bool_ge true false = refl
bool_ge false true = refl
bool_ge false false = refl
