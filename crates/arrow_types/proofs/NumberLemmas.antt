-- Lemmas about natural numbers.
use Rattle.std.proofs.Common.{◌≡◌, ℕ, ◌+◌, ◌*◌, ◌≤◌, max, min, List, [], ◌∷◌, arith}
use Rattle.std.specs.Char.{digit_value}
use Rattle.std.specs.Str.Parse.{digits_value_after}

-- ---- the greater and the less of two numbers, one of which is zero

pub max-zero : (x y : ℕ) → y ≡ 0 → max x y ≡ x
max-zero x y e = omega (arith, e)

pub zero-max : (x y : ℕ) → x ≡ 0 → max x y ≡ y
zero-max x y e = omega (arith, e)

pub min-zero : (x y : ℕ) → y ≡ 0 → min x y ≡ 0
min-zero x y e = omega (arith, e)

-- ---- digits

-- more digits make no number less
pub value-ge : (n : ℕ) (ds : List ℕ) → n ≤ digits_value_after 10 n ds
value-ge n [] = omega arith
value-ge n (d ∷ ds) = omega (arith, value-ge (n * 10 + digit_value d) ds)
