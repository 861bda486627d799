use Rattle.std.proofs.Common.{ap, Bool, map, refl, ◌∙◌}
use Rattle.compute_base.proofs.CallerLemmas.{makes-mapped, mapped-fits}
use Rattle.compute_cast.specs.Cast.{number_of_bool}
use Rattle.compute_cast.proofs.booleans.boolean_to_primitive.Goals as goal

pub new-requires-clause-mask : goal.new-requires-clause-mask
new-requires-clause-mask g c =
    let make = λ (b : Bool). g.O.NativeArithmetics.wrap (number_of_bool b) in
    let made = c.in_ok-values.ensures.ok ∙ c.in_ok-number_marks.ensures.ok
    ∙ ap (map make) c.values.ensures in
    mapped-fits make c.args.array.now c.in_ok-values.values c.in_ok-validity.validity made
    (c.in_ok-validity.ensures.ok ∙ c.validity.ensures.mask)

pub returns-clause-ok : goal.returns-clause-ok
returns-clause-ok g c =
    let make = λ (b : Bool). g.O.NativeArithmetics.wrap (number_of_bool b) in
    let made = c.in_ok-values.ensures.ok ∙ c.in_ok-number_marks.ensures.ok
    ∙ ap (map make) c.values.ensures in
    makes-mapped make c.args.array.now c.in_ok-values.values c.in_ok-validity.validity made
    (c.in_ok-validity.ensures.ok ∙ c.validity.ensures.mask) c.validity.ensures.is_column _ _ refl c.new.result c.new.ensures
