use Rattle.std.proofs.Common.{◌≡◌, ap, ◌∙◌, option_map}
use Rattle.arrow_types.specs.Types.{refusal}
use Rattle.arrow_check.specs.Indexes.{key_refusal}
use Rattle.arrow_column.specs.Masks.{mask_with_nulls}
use Rattle.arrow_bytes.specs.Selection.{at_keys}
use Rattle.arrow_kernels.proofs.ChoiceLemmas.{fits-picked, makes-taken, not-out_of_bounds}
use Rattle.arrow_kernels.proofs.take.take_boolean.Goals as goal

pub returns-in_err-check_indexes-clause-err : goal.returns-in_err-check_indexes-clause-err
returns-in_err-check_indexes-clause-err g c =
    not-out_of_bounds c.args.array.now g.K.IndexKey.number c.args.keys.now _ (λ key.
    refusal c.in_err-check_indexes.field-0.0 ≡ key_refusal (g.K.IndexKey.number key)) _ c.from_residual.result
    (c.len.ensures)
    c.in_err-check_indexes.ensures.first

pub new-requires-clause-mask : goal.new-requires-clause-mask
new-requires-clause-mask g c =
    fits-picked c.args.array.now g.K.IndexKey.number c.args.keys.now _ _
    (c.in_ok-values.ensures.ok ∙ ap (at_keys g.K.IndexKey.number c.args.keys.now) c.values.ensures)
    (c.in_ok-mask.ensures.ok
    ∙ ap (λ o. mask_with_nulls (option_map (at_keys g.K.IndexKey.number c.args.keys.now) o))
    c.validity.ensures.mask)

pub returns-clause-ok : goal.returns-clause-ok
returns-clause-ok g c =
    c.new.ensures
    ∙ makes-taken tt c.args.array.now g.K.IndexKey.number c.args.keys.now _ _ _ c.validity.ensures.is_column
    (c.in_ok-data_type.ensures.cases ∙ c.data_type.ensures.value)
    (c.in_ok-values.ensures.ok ∙ ap (at_keys g.K.IndexKey.number c.args.keys.now) c.values.ensures)
    (c.in_ok-mask.ensures.ok
    ∙ ap (λ o. mask_with_nulls (option_map (at_keys g.K.IndexKey.number c.args.keys.now) o))
    c.validity.ensures.mask)
