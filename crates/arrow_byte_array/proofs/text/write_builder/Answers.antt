use Rattle.std.proofs.Common.{Some, codes, is_ok, ap}
use Rattle.std.specs.Fmt.{◌++?◌}
use Rattle.std.proofs.Output.{displays_on_IsOk_append}
use Rattle.arrow_column.specs.Column.{mask_of}
use Rattle.arrow_column.specs.SlotText.{validity_text}
use Rattle.arrow_bytes.specs.ItemText.{values_builder_text}
use Rattle.arrow_byte_array.proofs.text.write_builder.Goals as goal

pub returns : goal.returns
returns g c =
    let took = g.W.Write.write_str_gives in
    let column = c.args.column.now in
    let values = values_builder_text g.K.WriteKind.values_builder_name column in
    let mask = validity_text (mask_of column) in
    let end = c.write_validity.new.f in
    let last = c.write_validity.result in
    displays_on_IsOk_append took c.args.f.now c.write_str.new.self end c.write_str.result last
    (Some g.K.WriteKind.builder_name) (Some (codes " { values: ") ++? values ++? mask)
    (λ _. ap is_ok c.in_ok-write_str.was) (rw c.builder_name.ensures at c.write_str.ensures.writes)
    (displays_on_IsOk_append took c.write_str.new.self c.write_str-2.new.self end c.write_str-2.result last
    (Some (codes " { values: ")) (values ++? mask)
    (λ _. ap is_ok c.in_ok-write_str-2.was) c.write_str-2.ensures.writes
    (displays_on_IsOk_append took c.write_str-2.new.self c.write_values.new.f end c.write_values.result last
    values mask
    (λ _. ap is_ok c.in_ok-write_values.was) (rw c.values_builder_name.ensures at c.write_values.ensures)
    c.write_validity.ensures))
