use Rattle.std.proofs.Common.{◌≡◌, ℕ, ◌<◌, slice_get}
use Rattle.arrow_memory.specs.Rows.{IsValidAt}
use Rattle.arrow_column.proofs.equality.agree_where.Given as goal

-- the values so far agree
abbrev pub invariant-loop-i : goal.invariant-loop-i
invariant-loop-i g l =
    (k : ℕ) → k < l.i → IsValidAt (g.M.Mask.mask l.fn.mask) k → slice_get l.first k ≡ slice_get l.second k
