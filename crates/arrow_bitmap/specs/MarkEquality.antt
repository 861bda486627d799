-- Whether two lists of marks are the same, as a test: what `==` of bitmaps answers.
use Rattle.std.specs.Prelude.{◌≡◌, ◌+◌, ◌<◌, ℕ, List, Bool, Option, slice_get}
use Rattle.std.specs.Bool.{beq, Decides}
use Rattle.std.specs.Cmp.{booleans_Decides}
use Rattle.std.specs.Cmp.Lexicographic.{pointwise, pointwise_decides}
use Rattle.arrow_bitmap.specs.Masks.{IsValidAt}

-- as many marks, each the same as the other list's
abbrev pub same_marks : List Bool → List Bool → Bool
same_marks = pointwise beq

pub same_marks-Decides : (xs ys : List Bool) → Decides (same_marks xs ys) (xs ≡ ys)
same_marks-Decides xs ys = pointwise_decides booleans_Decides xs ys

-- two lists agree wherever a mask has a set mark among the n marks from a place on
abbrev pub AgreeWhereIn : {X : Type 0} → Option (List Bool) → ℕ → ℕ → List X → List X → Type 0
AgreeWhereIn mask place n xs ys =
    (k : ℕ) → k < n → IsValidAt mask (place + k) → slice_get xs (place + k) ≡ slice_get ys (place + k)
