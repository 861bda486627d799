use Rattle.std.proofs.Common.{ap, map, refl, ◌∙◌}
use Rattle.compute_base.proofs.CallerLemmas.{makes-mapped, mapped-fits}
use Rattle.compute_cast.proofs.integers.primitive_as_primitive.Goals as goal

pub new-requires-clause-mask : goal.new-requires-clause-mask
new-requires-clause-mask g c =
    let make = λ (x : g.row.I.Denot). g.O.NativeArithmetics.wrap (g.I.NativeArithmetics.number x) in
    let made = c.in_ok-values.ensures.ok ∙ c.in_ok-wrap_values.ensures.ok
    ∙ ap (map make) (c.as_slice.ensures ∙ c.values.ensures) in
    mapped-fits make c.args.array.now c.in_ok-values.values c.in_ok-validity.validity made
    (c.in_ok-validity.ensures.ok ∙ c.validity.ensures.mask)

pub returns-clause-ok : goal.returns-clause-ok
returns-clause-ok g c =
    let make = λ (x : g.row.I.Denot). g.O.NativeArithmetics.wrap (g.I.NativeArithmetics.number x) in
    let made = c.in_ok-values.ensures.ok ∙ c.in_ok-wrap_values.ensures.ok
    ∙ ap (map make) (c.as_slice.ensures ∙ c.values.ensures) in
    makes-mapped make c.args.array.now c.in_ok-values.values c.in_ok-validity.validity made
    (c.in_ok-validity.ensures.ok ∙ c.validity.ensures.mask) c.validity.ensures.is_column _ _ refl c.new.result c.new.ensures
