use Rattle.std.proofs.Common.{ap₂, ◌∙◌}
use Rattle.compute_base.specs.Slots.{both_masks}
use Rattle.compute_base.proofs.CallerLemmas.{combination-fits, makes-combination}
use Rattle.compute_arithmetics.specs.Arithmetic.{of_pairs}
use Rattle.compute_arithmetics.proofs.combine.combine.Goals as goal

pub new-requires-clause-mask : goal.new-requires-clause-mask
new-requires-clause-mask g c =
    let made = c.in_ok-values.ensures.ok ∙ c.in_ok-combine_values.ensures.ok ∙ ap₂ (of_pairs g.O.Operation.make)
    (c.as_slice-first.ensures ∙ c.values.ensures) (c.as_slice-second.ensures ∙ c.values-2.ensures) in
    let mask = c.in_ok-validity.ensures.ok ∙ ap₂ both_masks c.validity.ensures.mask c.validity-2.ensures.mask in
    combination-fits g.O.Operation.make c.args.lhs.now c.args.rhs.now c.in_ok-values.values c.in_ok-validity.validity made
    mask c.requires

pub returns-clause-ok : goal.returns-clause-ok
returns-clause-ok g c =
    let made = c.in_ok-values.ensures.ok ∙ c.in_ok-combine_values.ensures.ok ∙ ap₂ (of_pairs g.O.Operation.make)
    (c.as_slice-first.ensures ∙ c.values.ensures) (c.as_slice-second.ensures ∙ c.values-2.ensures) in
    let mask = c.in_ok-validity.ensures.ok ∙ ap₂ both_masks c.validity.ensures.mask c.validity-2.ensures.mask in
    makes-combination g.O.Operation.make c.args.lhs.now c.args.rhs.now c.in_ok-values.values c.in_ok-validity.validity made
    mask c.requires c.validity.ensures.is_column c.validity-2.ensures.is_column _ _
    (c.in_ok-clone.ensures.cases ∙ c.data_type.ensures.value) c.new.result c.new.ensures
