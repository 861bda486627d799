use Rattle.std.proofs.Common.{◌≡◌, ℕ, ◌*◌, ◌<◌, slice_get}
use Rattle.arrow_bitmap.specs.Masks.{IsValidAt}
use Rattle.arrow_bitmap.proofs.equality.agree_where.Given as goal

-- the words so far agree
abbrev pub invariant-loop-word : goal.invariant-loop-word
invariant-loop-word l = (k : ℕ) → k < 64 * l.word → IsValidAt l.mask k → slice_get l.first k ≡ slice_get l.second k
