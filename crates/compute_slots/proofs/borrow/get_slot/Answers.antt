use Rattle.std.proofs.Common.{◌∙◌, ap, not, Some, true}
use Rattle.arrow_column.proofs.CallerLemmas.{null-at, slot-at}
use Rattle.compute_slots.proofs.borrow.get_slot.Goals as goal

pub returns-then-is_null : goal.returns-then-is_null
returns-then-is_null g c =
    let column = g.A.Array.column c.args.array.now in
    null-at column.rows c.args.i c.requires (c.is_null.ensures ∙ ap (λ b. Some (not b)) c.if-is_null.true)

pub returns : goal.returns
returns g c =
    let column = g.A.Array.column c.args.array.now in
    slot-at column.rows c.args.i (g.A.BorrowSlots.seen c.value.result) true c.value.ensures
    (c.is_null.ensures ∙ ap (λ b. Some (not b)) c.if-is_null.false)
