use Rattle.std.proofs.Common.{◌-◌, ◌∙◌, ap, arith, rules, slice_get, sym, true}
use Rattle.std.specs.Ordering.{is_ne}
use Rattle.arrow_column.proofs.CallerLemmas.{all-valid, set-at, slot-at}
use Rattle.compute_sort.specs.Columns.{order_at}
use Rattle.compute_sort.proofs.ChangeLemmas.{next-noted, valid-differs}
use Rattle.compute_sort.proofs.columns.note_values.Goals as goal

pub loop-i-preserved : goal.loop-i-preserved
loop-i-preserved g c =
    let column = g.A.Array.column c.args.array.now in
    let order = g.A.OrderSlots.order in
    let total = (g.met.A.OrderSlots c.lifetimes (search rules)).total in
    let all = all-valid column.rows c.requires.valid in
    let i = c.loop-i.i in
    let before = slot-at column.rows (i - 1) (g.A.BorrowSlots.seen c.stored_value-before.result) true
    (ap (λ xs. slice_get xs (i - 1)) (sym c.stored_values-values.ensures) ∙ c.stored_value-before.ensures)
    (set-at column.rows all (i - 1) (omega arith)) in
    let value = slot-at column.rows i (g.A.BorrowSlots.seen c.stored_value-value.result) true
    (ap (λ xs. slice_get xs i) (sym c.stored_values-values.ensures) ∙ c.stored_value-value.ensures)
    (set-at column.rows all i (omega arith)) in
    next-noted (order_at order column c.args.options) c.args.differs.now c.loop-i.differs i c.is_ne-differ.result
    (omega arith) (c.is_ne-differ.ensures ∙ ap is_ne c.compare.ensures
    ∙ valid-differs order total column c.args.options (i - 1) i _ _ before value) c.loop-i.invariant
