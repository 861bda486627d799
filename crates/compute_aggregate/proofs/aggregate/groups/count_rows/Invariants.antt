use Rattle.std.proofs.Common.{length, take}
use Rattle.std.specs.List.{zip}
use Rattle.arrow_column.specs.Column.{slots_of}
use Rattle.compute_aggregate.specs.Groups.{StatesOf, count_step}
use Rattle.compute_aggregate.proofs.aggregate.groups.count_rows.Given as goal

abbrev pub invariant-loop-i : goal.invariant-loop-i
invariant-loop-i g l = StatesOf count_step 0 (take l.i (zip l.indices (slots_of (g.A.Array.column l.array)))) (length l.fn.counts) l.counts
