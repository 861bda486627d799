use Rattle.std.proofs.Common.{◌≡◌, ℕ, ◌<◌, slice_get}
use Rattle.arrow_memory.specs.Rows.{IsValidAt}
use Rattle.arrow_column.proofs.equality.EqualValues.are_same_where.Given as goal

-- the values so far agree
abbrev pub invariant-loop-i : goal.invariant-loop-i
invariant-loop-i g l =
    let stored = g.Self.StoredValues.stored in
    (k : ℕ) → k < l.i → IsValidAt (g.M.Mask.mask l.fn.mask) k → slice_get (stored l.fn.self) k ≡ slice_get (stored l.fn.other) k
