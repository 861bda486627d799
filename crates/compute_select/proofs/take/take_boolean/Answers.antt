use Rattle.std.proofs.Common.{◌∙◌, ap₂, false}
use Rattle.arrow_types.specs.Types.{logical_type}
use Rattle.arrow_column.specs.Column.{stored_values}
use Rattle.compute_select.specs.Selects.{slots_taken, values_at_keys}
use Rattle.compute_select.proofs.KeyLemmas.{stores-taken}
use Rattle.compute_select.proofs.ShownLemmas.{made-shown}
use Rattle.compute_select.proofs.take.take_boolean.Goals as goal

pub returns-clause-ok : goal.returns-clause-ok
returns-clause-ok g c =
    let number = g.K.IndexKey.number in
    let array = c.args.array.now in
    let keys = c.args.keys.now in
    made-shown (logical_type c.in_ok-data_type.data_type) array.data_type tt (slots_taken number array keys) _
    (values_at_keys number false (stored_values array) (stored_values keys)) _ _ c.new.ensures
    (c.in_ok-data_type.ensures.cases ∙ c.data_type.ensures.value)
    (c.in_ok-values.ensures.ok ∙ c.in_ok-collect_marks.ensures
    ∙ ap₂ (λ vs ks. values_at_keys number false vs ks) c.values-2.ensures
    (c.as_slice-places.ensures ∙ c.values.ensures))
    c.in_ok-mask.ensures.ok (stores-taken number array.rows false keys.rows)
