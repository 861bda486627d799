use Rattle.std.proofs.Common.{◌∙◌, Some, ap, ap₂, map, refl}
use Rattle.arrow_types.specs.Types.{logical_type}
use Rattle.arrow_column.specs.Column.{column_of_parts, empty_masked, slots_of}
use Rattle.arrow_column.specs.Masks.{mask_with_nulls}
use Rattle.compute_cast.specs.Decimals.{value_of_slot}
use Rattle.compute_cast.proofs.StoredLemmas.{array-of-parts}
use Rattle.compute_cast.proofs.bytes_to.parse_slots.Goals as goal

pub returns-clause-ok : goal.returns-clause-ok
returns-clause-ok g c =
    let t = logical_type c.args.data_type in
    let slots = map (value_of_slot g.T.NativeArithmetics.fits g.T.NativeArithmetics.wrap) (slots_of c.args.array.now) in
    c.new.ensures
    ∙ ap₂ (column_of_parts t) (c.in_ok-values-2.ensures.ok ∙ c.in_ok-values.ensures.values) (c.needed_mask.ensures
    ∙ ap (λ marks. mask_with_nulls (Some marks)) (c.in_ok-marks.ensures.ok ∙ c.in_ok-values.ensures.marks))
    ∙ array-of-parts g.T.NativeType.zero (empty_masked t) slots refl
