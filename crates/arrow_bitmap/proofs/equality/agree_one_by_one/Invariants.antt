use Rattle.std.proofs.Common.{◌≡◌, ℕ, ◌<◌, slice_get}
use Rattle.arrow_bitmap.specs.Masks.{IsValidAt}
use Rattle.arrow_bitmap.proofs.equality.agree_one_by_one.Given as goal

-- the marks so far agree
abbrev pub invariant-loop-i : goal.invariant-loop-i
invariant-loop-i l = (k : ℕ) → k < l.i → IsValidAt l.mask k → slice_get l.first k ≡ slice_get l.second k
