use Rattle.std.proofs.Common.{ap, ap₂, ◌∙◌}
use Rattle.compute_base.specs.Slots.{both_masks, stored_of, valid_of}
use Rattle.compute_arithmetics.specs.Arithmetic.{of_pairs}
use Rattle.compute_arithmetics.proofs.CombineLemmas.{checked-fit, makes-checked, outcomes-fit}
use Rattle.compute_arithmetics.proofs.combine.combine_checked.Goals as goal

pub mask_of_both-requires-2 : goal.mask_of_both-requires-2
mask_of_both-requires-2 g c =
    let outcomes = ap₂ (of_pairs g.O.CheckedOperation.make) (c.as_slice-first.ensures ∙ c.values.ensures)
    (c.as_slice-second.ensures ∙ c.values-2.ensures) in
    let both = c.as_ref.ensures.value ∙ c.in_ok-both.ensures.ok
    ∙ ap₂ both_masks c.validity.ensures.mask c.validity-2.ensures.mask in
    outcomes-fit g.T.NativeType.zero g.O.CheckedOperation.make c.args.lhs.now c.args.rhs.now c.in_ok-values.field-0.values.items
    c.in_ok-marks.marks _ (c.in_ok-values.ensures.values ∙ ap (stored_of g.T.NativeType.zero) outcomes)
    (c.in_ok-marks.ensures.ok ∙ c.in_ok-values.ensures.marks ∙ ap valid_of outcomes) both c.requires

pub new-requires-clause-mask : goal.new-requires-clause-mask
new-requires-clause-mask g c =
    let outcomes = ap₂ (of_pairs g.O.CheckedOperation.make) (c.as_slice-first.ensures ∙ c.values.ensures)
    (c.as_slice-second.ensures ∙ c.values-2.ensures) in
    let both = c.as_ref.ensures.value ∙ c.in_ok-both.ensures.ok
    ∙ ap₂ both_masks c.validity.ensures.mask c.validity-2.ensures.mask in
    checked-fit g.T.NativeType.zero g.O.CheckedOperation.make c.args.lhs.now c.args.rhs.now c.in_ok-values-2.values
    c.in_ok-marks.marks _
    (c.in_ok-values-2.ensures.ok ∙ c.in_ok-values.ensures.values ∙ ap (stored_of g.T.NativeType.zero) outcomes)
    (c.in_ok-marks.ensures.ok ∙ c.in_ok-values.ensures.marks ∙ ap valid_of outcomes) both c.requires
    c.in_ok-validity.validity c.in_ok-validity.ensures.ok

pub returns-clause-ok : goal.returns-clause-ok
returns-clause-ok g c =
    let outcomes = ap₂ (of_pairs g.O.CheckedOperation.make) (c.as_slice-first.ensures ∙ c.values.ensures)
    (c.as_slice-second.ensures ∙ c.values-2.ensures) in
    let both = c.as_ref.ensures.value ∙ c.in_ok-both.ensures.ok
    ∙ ap₂ both_masks c.validity.ensures.mask c.validity-2.ensures.mask in
    makes-checked g.T.NativeType.zero g.O.CheckedOperation.make c.args.lhs.now c.args.rhs.now c.in_ok-values-2.values
    c.in_ok-marks.marks _
    (c.in_ok-values-2.ensures.ok ∙ c.in_ok-values.ensures.values ∙ ap (stored_of g.T.NativeType.zero) outcomes)
    (c.in_ok-marks.ensures.ok ∙ c.in_ok-values.ensures.marks ∙ ap valid_of outcomes) both c.requires
    c.in_ok-validity.validity c.in_ok-validity.ensures.ok c.validity.ensures.is_column c.validity-2.ensures.is_column _
    (c.in_ok-clone.ensures.cases ∙ c.data_type.ensures.value) c.new.result c.new.ensures
