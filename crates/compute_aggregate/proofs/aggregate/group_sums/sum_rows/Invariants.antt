use Rattle.std.proofs.Common.{◌≡◌, ℕ, Some, slice_get, take}
use Rattle.std.specs.List.{zip}
use Rattle.arrow_column.specs.Column.{slots_of}
use Rattle.compute_aggregate.specs.Groups.{values_at}
use Rattle.compute_aggregate.specs.GroupSums.{IsGroupSum}
use Rattle.compute_aggregate.proofs.GroupSumLemmas.{Sum}
use Rattle.compute_aggregate.proofs.aggregate.group_sums.sum_rows.Given as goal

abbrev pub invariant-loop-i : goal.invariant-loop-i
invariant-loop-i g l = (k : ℕ) (s : Sum) → slice_get l.sums k ≡ Some s
    → IsGroupSum g.T.NativeArithmetics.number (values_at (take l.i (zip l.indices (slots_of l.array))) k) l.i s
