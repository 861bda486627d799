use Rattle.std.proofs.Common.{ap₂, ◌∙◌, refl}
use Rattle.compute_base.specs.Slots.{both_masks}
use Rattle.compute_base.proofs.CallerLemmas.{combination-fits, makes-combination}
use Rattle.compute_comparison.proofs.comparison.compare.Goals as goal

pub new-requires-clause-mask : goal.new-requires-clause-mask
new-requires-clause-mask g c =
    let mask = c.in_ok-validity.ensures.ok ∙ ap₂ both_masks c.validity.ensures.mask c.validity-2.ensures.mask in
    combination-fits (λ x y. g.C.Comparison.test (g.A.OrderedArray.order x y)) (g.A.Array.column c.args.lhs.now)
    (g.A.Array.column c.args.rhs.now) c.in_ok-truths.truths c.in_ok-validity.validity c.in_ok-truths.ensures.ok mask
    c.requires

pub returns-clause-ok : goal.returns-clause-ok
returns-clause-ok g c =
    let mask = c.in_ok-validity.ensures.ok ∙ ap₂ both_masks c.validity.ensures.mask c.validity-2.ensures.mask in
    makes-combination (λ x y. g.C.Comparison.test (g.A.OrderedArray.order x y)) (g.A.Array.column c.args.lhs.now)
    (g.A.Array.column c.args.rhs.now) c.in_ok-truths.truths c.in_ok-validity.validity c.in_ok-truths.ensures.ok mask
    c.requires c.validity.ensures.is_column c.validity-2.ensures.is_column _ _ refl c.new.result c.new.ensures
