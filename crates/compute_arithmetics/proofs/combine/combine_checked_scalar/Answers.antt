use Rattle.std.proofs.Common.{ap, is_some, map, unwrap_or, ◌∙◌}
use Rattle.arrow_types.proofs.CallerLemmas.{map-map}
use Rattle.arrow_column.specs.Column.{stored_values}
use Rattle.compute_base.specs.Slots.{stored_of, valid_of}
use Rattle.compute_base.proofs.CallerLemmas.{checked-map-fits, makes-checked-map, marks-fit}
use Rattle.compute_arithmetics.proofs.CombineLemmas.{outcome-slot}
use Rattle.compute_arithmetics.proofs.combine.combine_checked_scalar.Goals as goal

pub mask_of_both-requires : goal.mask_of_both-requires
mask_of_both-requires g c =
    let zero = g.T.NativeType.zero in
    let make = λ (x : g.row.T.Denot). g.O.CheckedOperation.make x c.args.rhs in
    let xs = stored_values c.args.lhs.now in
    let outcomes = ap (map make) (c.as_slice.ensures ∙ c.values.ensures) in
    marks-fit (λ x. unwrap_or (make x) zero) (λ x. is_some (make x)) make (λ x. outcome-slot zero (make x)) c.args.lhs.now
    c.in_ok-values.field-0.values.items c.in_ok-marks.marks _
    (c.in_ok-values.ensures.values ∙ ap (stored_of zero) outcomes ∙ map-map (λ o. unwrap_or o zero) make xs)
    (c.in_ok-marks.ensures.ok ∙ c.in_ok-values.ensures.marks ∙ ap valid_of outcomes ∙ map-map is_some make xs)
    c.validity.ensures.mask

pub new-requires-clause-mask : goal.new-requires-clause-mask
new-requires-clause-mask g c =
    let zero = g.T.NativeType.zero in
    let make = λ (x : g.row.T.Denot). g.O.CheckedOperation.make x c.args.rhs in
    let xs = stored_values c.args.lhs.now in
    let outcomes = ap (map make) (c.as_slice.ensures ∙ c.values.ensures) in
    checked-map-fits (λ x. unwrap_or (make x) zero) (λ x. is_some (make x)) make (λ x. outcome-slot zero (make x))
    c.args.lhs.now c.in_ok-values-2.values c.in_ok-marks.marks _
    (c.in_ok-values-2.ensures.ok ∙ c.in_ok-values.ensures.values ∙ ap (stored_of zero) outcomes
    ∙ map-map (λ o. unwrap_or o zero) make xs)
    (c.in_ok-marks.ensures.ok ∙ c.in_ok-values.ensures.marks ∙ ap valid_of outcomes ∙ map-map is_some make xs)
    c.validity.ensures.mask
    c.in_ok-validity.validity c.in_ok-validity.ensures.ok

pub returns-clause-ok : goal.returns-clause-ok
returns-clause-ok g c =
    let zero = g.T.NativeType.zero in
    let make = λ (x : g.row.T.Denot). g.O.CheckedOperation.make x c.args.rhs in
    let xs = stored_values c.args.lhs.now in
    let outcomes = ap (map make) (c.as_slice.ensures ∙ c.values.ensures) in
    makes-checked-map (λ x. unwrap_or (make x) zero) (λ x. is_some (make x)) make (λ x. outcome-slot zero (make x))
    c.args.lhs.now c.in_ok-values-2.values c.in_ok-marks.marks _
    (c.in_ok-values-2.ensures.ok ∙ c.in_ok-values.ensures.values ∙ ap (stored_of zero) outcomes
    ∙ map-map (λ o. unwrap_or o zero) make xs)
    (c.in_ok-marks.ensures.ok ∙ c.in_ok-values.ensures.marks ∙ ap valid_of outcomes ∙ map-map is_some make xs)
    c.validity.ensures.mask
    c.in_ok-validity.validity c.in_ok-validity.ensures.ok c.validity.ensures.is_column _ _
    (c.in_ok-clone.ensures.cases ∙ c.data_type.ensures.value) c.new.result c.new.ensures
