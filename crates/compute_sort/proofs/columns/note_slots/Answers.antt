use Rattle.std.proofs.Common.{◌∙◌, ap, arith}
use Rattle.std.specs.Ordering.{is_ne}
use Rattle.compute_sort.specs.Columns.{order_at}
use Rattle.compute_sort.proofs.ChangeLemmas.{next-noted}
use Rattle.compute_sort.proofs.columns.note_slots.Goals as goal

pub loop-i-preserved : goal.loop-i-preserved
loop-i-preserved g c =
    next-noted (order_at g.A.OrderSlots.order (g.A.Array.column c.args.array.now) c.args.options) c.args.differs.now
    c.loop-i.differs c.loop-i.i c.is_ne-differ.result (omega arith)
    (c.is_ne-differ.ensures ∙ ap is_ne c.compare_slots.ensures) c.loop-i.invariant
