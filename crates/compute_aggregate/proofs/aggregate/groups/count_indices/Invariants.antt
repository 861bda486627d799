use Rattle.std.proofs.Common.{length, take}
use Rattle.compute_aggregate.specs.Groups.{StatesOf, count_step, own_pairs}
use Rattle.compute_aggregate.proofs.aggregate.groups.count_indices.Given as goal

abbrev pub invariant-loop-i : goal.invariant-loop-i
invariant-loop-i l = StatesOf count_step 0 (take l.i (own_pairs l.indices)) (length l.fn.counts) l.counts
