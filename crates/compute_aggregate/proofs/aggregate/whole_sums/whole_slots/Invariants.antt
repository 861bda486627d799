use Rattle.compute_aggregate.proofs.GroupSumLemmas.{WholeSlotsSoFar}
use Rattle.compute_aggregate.proofs.aggregate.whole_sums.whole_slots.Given as goal

abbrev pub invariant-loop-i : goal.invariant-loop-i
invariant-loop-i g l = WholeSlotsSoFar g.T.NativeArithmetics.number l.sums l.i l.slots.items
