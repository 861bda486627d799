use Rattle.std.proofs.Common.{◌&&◌, ap₂, ◌∙◌, refl}
use Rattle.arrow_column.specs.Combined.{of_pairs}
use Rattle.compute_base.specs.Slots.{both_masks}
use Rattle.compute_base.proofs.CallerLemmas.{combination-fits, makes-combination}
use Rattle.compute_comparison.proofs.boolean.and.Goals as goal

pub new-requires-clause-mask : goal.new-requires-clause-mask
new-requires-clause-mask c =
    let values = c.in_ok-values.ensures.ok ∙ ap₂ (of_pairs (λ x y. x && y)) c.values.ensures c.values-2.ensures in
    let mask = c.in_ok-validity.ensures.ok ∙ ap₂ both_masks c.validity.ensures.mask c.validity-2.ensures.mask in
    combination-fits (λ x y. x && y) c.args.lhs.now c.args.rhs.now c.in_ok-values.values c.in_ok-validity.validity
    values mask c.requires

pub returns-clause-ok : goal.returns-clause-ok
returns-clause-ok c =
    let values = c.in_ok-values.ensures.ok ∙ ap₂ (of_pairs (λ x y. x && y)) c.values.ensures c.values-2.ensures in
    let mask = c.in_ok-validity.ensures.ok ∙ ap₂ both_masks c.validity.ensures.mask c.validity-2.ensures.mask in
    makes-combination (λ x y. x && y) c.args.lhs.now c.args.rhs.now c.in_ok-values.values c.in_ok-validity.validity
    values mask c.requires c.validity.ensures.is_column c.validity-2.ensures.is_column _ _ refl c.new.result c.new.ensures
