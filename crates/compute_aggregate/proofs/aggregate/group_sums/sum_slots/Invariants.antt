use Rattle.compute_aggregate.proofs.GroupSumLemmas.{SlotsSoFar}
use Rattle.compute_aggregate.proofs.aggregate.group_sums.sum_slots.Given as goal

abbrev pub invariant-loop-i : goal.invariant-loop-i
invariant-loop-i g l = SlotsSoFar g.T.NativeArithmetics.number l.sums l.i l.slots.items
