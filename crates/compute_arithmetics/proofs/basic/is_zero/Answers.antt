use Rattle.std.proofs.Common.{◌∙◌, ap, sym}
use Rattle.compute_arithmetics.specs.Arithmetic.{slot_is_zero}
use Rattle.compute_base.proofs.CallerLemmas.{zero-number}
use Rattle.compute_arithmetics.proofs.basic.is_zero.Goals as goal

pub returns-in-Some : goal.returns-in-Some
returns-in-Some g c =
    let number = g.T.NativeArithmetics.number in
    let value = c.in-Some.value in
    c.eq.ensures ∙ ap (g.T.PartialEq.eq value) c.default.ensures
    ∙ zero-number number g.T.NativeType.zero value (g.T.PartialEq.eq value g.T.NativeType.zero)
    g.met.T.NativeArithmetics.zero_number g.met.T.NativeArithmetics.same_number
    (g.met.T.NativeType.same value g.T.NativeType.zero) ∙ ap (slot_is_zero number) (sym c.in-Some.is)
