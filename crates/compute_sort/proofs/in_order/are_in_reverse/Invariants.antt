use Rattle.compute_sort.specs.Columns.{order_at}
use Rattle.compute_sort.specs.IndexedValues.{AreInReverse}
use Rattle.compute_sort.proofs.in_order.are_in_reverse.Given as goal

abbrev pub invariant-loop-i : goal.invariant-loop-i
invariant-loop-i g l = AreInReverse (order_at g.A.OrderSlots.order (g.A.Array.column l.array) l.options) l.i
