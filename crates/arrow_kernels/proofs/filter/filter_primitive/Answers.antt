use Rattle.std.proofs.Common.{ap₂, ◌∙◌, option_map}
use Rattle.arrow_column.specs.Masks.{mask_with_nulls}
use Rattle.arrow_bytes.specs.Selection.{where_set}
use Rattle.arrow_kernels.proofs.ChoiceLemmas.{fits-filtered, makes-filtered}
use Rattle.arrow_kernels.proofs.filter.filter_primitive.Goals as goal

pub new-requires-clause-mask : goal.new-requires-clause-mask
new-requires-clause-mask g c =
    fits-filtered c.args.array.now c.args.filter.now _ _
    (c.in_ok-values.ensures.ok ∙ ap₂ where_set c.in_ok-selected.ensures.ok c.values.ensures)
    (c.in_ok-mask.ensures.ok ∙ ap₂ (λ marks o. mask_with_nulls (option_map (where_set marks) o))
    c.in_ok-selected.ensures.ok c.validity.ensures.mask)

pub returns-clause-ok : goal.returns-clause-ok
returns-clause-ok g c =
    c.new.ensures
    ∙ makes-filtered tt c.args.array.now c.args.filter.now _ _ _ c.validity.ensures.is_column
    (c.in_ok-data_type.ensures.cases ∙ c.data_type.ensures.value)
    (c.in_ok-values.ensures.ok ∙ ap₂ where_set c.in_ok-selected.ensures.ok c.values.ensures)
    (c.in_ok-mask.ensures.ok ∙ ap₂ (λ marks o. mask_with_nulls (option_map (where_set marks) o))
    c.in_ok-selected.ensures.ok c.validity.ensures.mask)
