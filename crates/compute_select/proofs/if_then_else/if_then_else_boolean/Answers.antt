use Rattle.std.proofs.Common.{◌∙◌, ap, ap₂}
use Rattle.arrow_types.specs.Types.{logical_type}
use Rattle.arrow_column.specs.Column.{stored_values}
use Rattle.compute_select.specs.Selects.{chosen_values, slots_chosen}
use Rattle.compute_select.proofs.ChoiceLemmas.{stores-chosen}
use Rattle.compute_select.proofs.ShownLemmas.{fits-shown, made-shown}
use Rattle.compute_select.proofs.if_then_else.if_then_else_boolean.Goals as goal

pub new-requires-clause-mask : goal.new-requires-clause-mask
new-requires-clause-mask c =
    let ps = c.args.predicate.now in
    let xs = c.args.lhs.now in
    let ys = c.args.rhs.now in
    fits-shown (slots_chosen ps xs ys) _ (chosen_values (stored_values ps) (stored_values xs) (stored_values ys)) _
    (c.in_ok-values.ensures.ok ∙ c.in_ok-collect_marks.ensures
    ∙ ap (λ p. chosen_values p c.values-2.result.now c.values-3.result.now) c.values.ensures
    ∙ ap₂ (λ x y. chosen_values (stored_values ps) x y) c.values-2.ensures c.values-3.ensures)
    c.in_ok-mask.ensures.ok (stores-chosen ps.rows xs.rows ys.rows c.requires.left c.requires.right)

pub returns-clause-ok : goal.returns-clause-ok
returns-clause-ok c =
    let ps = c.args.predicate.now in
    let xs = c.args.lhs.now in
    let ys = c.args.rhs.now in
    made-shown (logical_type c.in_ok-data_type.data_type) xs.data_type tt (slots_chosen ps xs ys) _
    (chosen_values (stored_values ps) (stored_values xs) (stored_values ys)) _ _ c.new.ensures
    (c.in_ok-data_type.ensures.cases ∙ c.data_type.ensures.value)
    (c.in_ok-values.ensures.ok ∙ c.in_ok-collect_marks.ensures
    ∙ ap (λ p. chosen_values p c.values-2.result.now c.values-3.result.now) c.values.ensures
    ∙ ap₂ (λ x y. chosen_values (stored_values ps) x y) c.values-2.ensures c.values-3.ensures)
    c.in_ok-mask.ensures.ok (stores-chosen ps.rows xs.rows ys.rows c.requires.left c.requires.right)
