use Rattle.std.proofs.Common.{false, Some, length, ap, ap₂, sym, ◌∙◌}
use Rattle.arrow_types.specs.Types.{logical_type}
use Rattle.arrow_column.specs.Column.{column_of_parts}
use Rattle.arrow_primitive.proofs.SlotLemmas.{filled, long-replicate}
use Rattle.arrow_primitive.proofs.array.PrimitiveArray.new_null.Goals as goal

pub new-requires-clause-mask : goal.new-requires-clause-mask
new-requires-clause-mask g c =
    let zero = g.T.NativeType.zero in
    let values = c.in_ok-from_vec.ensures.ok ∙ filled c.new-values.result.items c.resize.new.self.items
    c.args.length _ c.default.result zero c.new-values.ensures.items c.new-values.ensures.len c.default.ensures
    c.in_ok-resize.ensures.items in
    ap length c.in_ok-new_zeroed.ensures.ok ∙ long-replicate c.args.length false
    ∙ sym (ap length values ∙ long-replicate c.args.length zero)

pub returns-clause-ok : goal.returns-clause-ok
returns-clause-ok g c =
    let zero = g.T.NativeType.zero in
    let values = c.in_ok-from_vec.ensures.ok ∙ filled c.new-values.result.items c.resize.new.self.items
    c.args.length _ c.default.result zero c.new-values.ensures.items c.new-values.ensures.len c.default.ensures
    c.in_ok-resize.ensures.items in
    c.new.ensures ∙ ap₂ (λ xs marks. column_of_parts (logical_type c.args.data_type) xs (Some marks)) values
    c.in_ok-new_zeroed.ensures.ok
