use Rattle.std.proofs.Common.{Some, codes, is_ok, ap}
use Rattle.std.specs.Fmt.{◌++?◌}
use Rattle.std.proofs.Output.{displays_on_IsOk_append}
use Rattle.arrow_column.specs.Column.{mask_of, stored_values}
use Rattle.arrow_column.specs.SlotText.{head_text, validity_text}
use Rattle.arrow_column.proofs.growing.GrowingColumn.write_fields.Goals as goal

pub returns : goal.returns
returns g c =
    let took = g.W.Write.write_str_gives in
    let column = c.args.self.now in
    let values = g.V.WriteMutableValues.all_text (stored_values column) in
    let mask = validity_text (mask_of column) in
    let end = c.write_validity.new.f in
    let last = c.write_validity.result in
    displays_on_IsOk_append took c.args.f.now c.write_head.new.f end c.write_head.result last
    (Some (head_text c.args.name.now column.data_type (codes ", values: "))) (values ++? mask)
    (λ _. ap is_ok c.in_ok-write_head.was) (rw c.data_type.ensures at c.write_head.ensures)
    (displays_on_IsOk_append took c.write_head.new.f c.write_values.new.f end c.write_values.result last
    values mask
    (λ _. ap is_ok c.in_ok-write_values.was) (rw c.values.ensures.values at c.write_values.ensures)
    c.write_validity.ensures)
