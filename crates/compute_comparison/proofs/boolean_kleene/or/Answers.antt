use Rattle.std.proofs.Common.{◌||◌, ap₂, ◌∙◌}
use Rattle.arrow_column.specs.Combined.{of_pairs}
use Rattle.compute_comparison.proofs.KleeneLemmas.{or_fits, makes_or}
use Rattle.compute_comparison.proofs.boolean_kleene.or.Goals as goal

pub new-requires-clause-mask : goal.new-requires-clause-mask
new-requires-clause-mask c =
    let values = c.in_ok-values.ensures.ok ∙ ap₂ (of_pairs (λ x y. x || y)) c.values.ensures c.values-2.ensures in
    or_fits c.args.lhs.now c.args.rhs.now c.in_ok-values.values c.in_ok-validity.validity values
    c.in_ok-validity.ensures.ok

pub returns-clause-ok : goal.returns-clause-ok
returns-clause-ok c =
    let values = c.in_ok-values.ensures.ok ∙ ap₂ (of_pairs (λ x y. x || y)) c.values.ensures c.values-2.ensures in
    makes_or c.args.lhs.now c.args.rhs.now c.in_ok-values.values c.in_ok-validity.validity values
    c.in_ok-validity.ensures.ok c.known_mask.ensures.left c.known_mask.ensures.right c.new.result c.new.ensures
