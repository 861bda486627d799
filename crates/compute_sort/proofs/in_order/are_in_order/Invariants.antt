use Rattle.compute_sort.specs.Columns.{order_at}
use Rattle.compute_sort.specs.IndexedValues.{AreInOrder}
use Rattle.compute_sort.proofs.in_order.are_in_order.Given as goal

abbrev pub invariant-loop-i : goal.invariant-loop-i
invariant-loop-i g l = AreInOrder (order_at g.A.OrderSlots.order (g.A.Array.column l.array) l.options) l.i
