use Rattle.std.proofs.Common.{◌∙◌, refl, sym}
use Rattle.std.proofs.lemmas.List.{map-id}
use Rattle.arrow_column.specs.Column.{stored_values}
use Rattle.compute_base.proofs.CallerLemmas.{makes-mapped, mapped-fits}
use Rattle.compute_comparison.proofs.boolean.keep_slots.Goals as goal

pub new-requires-clause-mask : goal.new-requires-clause-mask
new-requires-clause-mask c =
    let values = c.in_ok-values.ensures.ok ∙ c.values.ensures ∙ sym (map-id (stored_values c.args.array.now)) in
    mapped-fits (λ x. x) c.args.array.now c.in_ok-values.values c.in_ok-validity.validity values
    (c.in_ok-validity.ensures.ok ∙ c.validity.ensures.mask)

pub returns-clause-ok : goal.returns-clause-ok
returns-clause-ok c =
    let values = c.in_ok-values.ensures.ok ∙ c.values.ensures ∙ sym (map-id (stored_values c.args.array.now)) in
    makes-mapped (λ x. x) c.args.array.now c.in_ok-values.values c.in_ok-validity.validity values
    (c.in_ok-validity.ensures.ok ∙ c.validity.ensures.mask) c.validity.ensures.is_column _ _ refl c.new.result
    c.new.ensures
