use Rattle.std.proofs.Common.{ap, ap₂, length, option_map, sym, ◌∙◌}
use Rattle.arrow_types.specs.Types.{logical_type}
use Rattle.arrow_bytes.specs.Pieces.{Pieces, nothing_around}
use Rattle.arrow_column.specs.Masks.{mask_with_nulls}
use Rattle.arrow_column.specs.Column.{column_with}
use Rattle.arrow_bytes.specs.Selection.{where_set}
use Rattle.arrow_kernels.proofs.ChoiceLemmas.{fits-filtered, makes-filtered}
use Rattle.arrow_kernels.proofs.LawLemmas.{length-asked}
use Rattle.arrow_kernels.proofs.filter.filter_items.Goals as goal

pub filter_byte_values-requires : goal.filter_byte_values-requires
filter_byte_values-requires g c = ap length c.in_ok-selected.ensures.ok ∙ length-asked c.args.filter.now ∙ c.requires
    ∙ sym c.byte_values.ensures.count

pub from_byte_values-requires-clause-mask : goal.from_byte_values-requires-clause-mask
from_byte_values-requires-clause-mask g c =
    fits-filtered c.args.array.now c.args.filter.now _ _
    (ap (λ (p : Pieces). p.items) c.in_ok-values.ensures.ok
    ∙ ap₂ where_set c.in_ok-selected.ensures.ok c.byte_values.ensures.items)
    (c.in_ok-mask.ensures.ok ∙ ap₂ (λ marks o. mask_with_nulls (option_map (where_set marks) o))
    c.in_ok-selected.ensures.ok c.validity.ensures.mask)

pub returns-clause-ok : goal.returns-clause-ok
returns-clause-ok g c =
    c.from_byte_values.ensures
    ∙ ap (λ around. column_with (logical_type c.in_ok-data_type.data_type) around c.in_ok-values.values.items
    c.in_ok-mask.mask) (ap (λ (p : Pieces). p.around) c.in_ok-values.ensures.ok)
    ∙ makes-filtered nothing_around c.args.array.now c.args.filter.now _ _ _ c.validity.ensures.is_column
    (c.in_ok-data_type.ensures.cases ∙ c.data_type.ensures.value)
    (ap (λ (p : Pieces). p.items) c.in_ok-values.ensures.ok
    ∙ ap₂ where_set c.in_ok-selected.ensures.ok c.byte_values.ensures.items)
    (c.in_ok-mask.ensures.ok ∙ ap₂ (λ marks o. mask_with_nulls (option_map (where_set marks) o))
    c.in_ok-selected.ensures.ok c.validity.ensures.mask)
