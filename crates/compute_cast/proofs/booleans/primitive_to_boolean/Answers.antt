use Rattle.std.proofs.Common.{ap, map, refl, ◌∙◌}
use Rattle.compute_base.proofs.CallerLemmas.{makes-mapped, mapped-fits}
use Rattle.compute_cast.specs.Cast.{is_nonzero}
use Rattle.compute_cast.proofs.booleans.primitive_to_boolean.Goals as goal

pub new-requires-clause-mask : goal.new-requires-clause-mask
new-requires-clause-mask g c =
    let test = λ (x : g.row.T.Denot). is_nonzero (g.T.NativeArithmetics.number x) in
    let made = c.in_ok-marks.ensures.ok ∙ ap (map test) (c.as_slice.ensures ∙ c.values.ensures) in
    mapped-fits test c.args.array.now c.in_ok-marks.marks c.in_ok-validity.validity made
    (c.in_ok-validity.ensures.ok ∙ c.validity.ensures.mask)

pub returns-clause-ok : goal.returns-clause-ok
returns-clause-ok g c =
    let test = λ (x : g.row.T.Denot). is_nonzero (g.T.NativeArithmetics.number x) in
    let made = c.in_ok-marks.ensures.ok ∙ ap (map test) (c.as_slice.ensures ∙ c.values.ensures) in
    makes-mapped test c.args.array.now c.in_ok-marks.marks c.in_ok-validity.validity made
    (c.in_ok-validity.ensures.ok ∙ c.validity.ensures.mask) c.validity.ensures.is_column _ _ refl c.new.result c.new.ensures
