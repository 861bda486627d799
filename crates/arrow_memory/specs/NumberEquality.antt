-- Whether two lists of numbers are the same, as a test: what `==` of offsets answers.
use Rattle.std.specs.Prelude.{◌≡◌, ℕ, List, Bool, nat_eq}
use Rattle.std.specs.Bool.{Decides}
use Rattle.std.specs.Cmp.{unsigned_Decides}
use Rattle.std.specs.Cmp.Lexicographic.{pointwise, pointwise_decides}

-- as many numbers, each the same as the other list's
abbrev pub same_numbers : List ℕ → List ℕ → Bool
same_numbers = pointwise nat_eq

pub same_numbers-Decides : (xs ys : List ℕ) → Decides (same_numbers xs ys) (xs ≡ ys)
same_numbers-Decides xs ys = pointwise_decides unsigned_Decides xs ys
