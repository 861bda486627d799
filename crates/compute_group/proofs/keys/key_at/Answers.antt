use Rattle.std.proofs.Common.{◌∙◌, Some, ap, sym}
use Rattle.arrow_memory.specs.Rows.{slot}
use Rattle.arrow_column.proofs.CallerLemmas.{slot-at}
use Rattle.compute_group.proofs.keys.key_at.Goals as goal

pub returns-clause-slot : goal.returns-clause-slot
returns-clause-slot g c =
    let column = g.A.Array.column c.args.array.now in
    slot-at column.rows c.args.i (g.A.BorrowSlots.seen c.value.result) c.is_valid.result c.value.ensures c.is_valid.ensures
    ∙ ap (λ x. Some (slot (x, c.is_valid.result))) (sym c.to_key-key.ensures.seen)
