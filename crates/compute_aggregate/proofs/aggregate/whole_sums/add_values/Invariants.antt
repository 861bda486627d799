use Rattle.std.proofs.Common.{None}
use Rattle.arrow_memory.specs.Rows.{rows_of}
use Rattle.compute_aggregate.specs.GroupSums.{SumsTo, slots_by_group}
use Rattle.compute_aggregate.proofs.aggregate.whole_sums.add_values.Given as goal

abbrev pub invariant-loop-i : goal.invariant-loop-i
invariant-loop-i g l = SumsTo g.T.NativeArithmetics.number (slots_by_group l.indices (rows_of l.values None)) l.i l.sums
