use Rattle.compute_sort.proofs.ChangeLemmas.{NotesUpTo}
use Rattle.compute_sort.specs.Columns.{order_at}
use Rattle.compute_sort.proofs.columns.note_slots.Given as goal

abbrev pub invariant-loop-i : goal.invariant-loop-i
invariant-loop-i g l = NotesUpTo (order_at g.A.OrderSlots.order (g.A.Array.column l.array) l.options) l.i
    l.fn.differs l.differs
