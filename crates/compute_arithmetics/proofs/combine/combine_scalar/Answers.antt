use Rattle.std.proofs.Common.{ap, map, ◌∙◌}
use Rattle.compute_base.proofs.CallerLemmas.{makes-mapped, mapped-fits}
use Rattle.compute_arithmetics.proofs.combine.combine_scalar.Goals as goal

pub new-requires-clause-mask : goal.new-requires-clause-mask
new-requires-clause-mask g c =
    let make = λ (x : g.row.T.Denot). g.O.Operation.make x c.args.rhs in
    let made = c.in_ok-values.ensures.ok ∙ c.in_ok-map_values.ensures.ok
    ∙ ap (map make) (c.as_slice.ensures ∙ c.values.ensures) in
    mapped-fits make c.args.lhs.now c.in_ok-values.values c.in_ok-validity.validity made
    (c.in_ok-validity.ensures.ok ∙ c.validity.ensures.mask)

pub returns-clause-ok : goal.returns-clause-ok
returns-clause-ok g c =
    let make = λ (x : g.row.T.Denot). g.O.Operation.make x c.args.rhs in
    let made = c.in_ok-values.ensures.ok ∙ c.in_ok-map_values.ensures.ok
    ∙ ap (map make) (c.as_slice.ensures ∙ c.values.ensures) in
    makes-mapped make c.args.lhs.now c.in_ok-values.values c.in_ok-validity.validity made
    (c.in_ok-validity.ensures.ok ∙ c.validity.ensures.mask) c.validity.ensures.is_column _ _
    (c.in_ok-clone.ensures.cases ∙ c.data_type.ensures.value) c.new.result c.new.ensures
