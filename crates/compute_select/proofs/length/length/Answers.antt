use Rattle.std.proofs.Common.{◌∙◌, ap, ap₂, map, option_map}
use Rattle.std.proofs.Common.{is_some}
use Rattle.arrow_types.specs.Types.{default_logical_type}
use Rattle.arrow_column.specs.Column.{slots_of}
use Rattle.arrow_memory.specs.Rows.{rows_of, slot}
use Rattle.compute_select.proofs.LengthLemmas.{held-mask, lengths-shown}
use Rattle.compute_select.proofs.length.length.Goals as goal

pub returns-clause-ok : goal.returns-clause-ok
returns-clause-ok g c =
    let number = g.O.Offset.number in
    let column = c.args.array.now in
    let values = c.in_ok-lengths-2.ensures.ok in
    let mask = c.in_ok-validity.ensures.ok ∙ c.validity.ensures.mask in
    record {
      data_type = ap (λ made. made.data_type) c.new.ensures ∙ c.default_data_type.ensures.value
          ∙ ap default_logical_type c.PRIMITIVE.ensures;
      slots =
          ap (λ made. map (option_map number) (slots_of made)) c.new.ensures
          ∙ ap₂ (λ vs m. map (option_map number) (map slot (rows_of vs m))) values mask
          ∙ lengths-shown number column.held column.rows c.in_ok-lengths.lengths.items c.in_ok-lengths.ensures
          c.validity.ensures.is_column;
      held = ap (λ made. made.held) c.new.ensures ∙ ap is_some mask ∙ held-mask column.held column.rows;
    }
