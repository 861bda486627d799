use Rattle.std.proofs.Common.{◌≡◌, ℕ, ◌<◌, Some, false, slice_get}
use Rattle.arrow_column.specs.Column.{marks_of}
use Rattle.compute_aggregate.proofs.aggregate.numbers.first_valid.Given as goal

abbrev pub invariant-loop-i : goal.invariant-loop-i
invariant-loop-i g l = (k : ℕ) → k < l.i → slice_get (marks_of l.array) k ≡ Some false
