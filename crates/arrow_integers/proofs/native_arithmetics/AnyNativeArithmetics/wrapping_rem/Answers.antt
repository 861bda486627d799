use Rattle.std.proofs.Common.{ap, ◌∙◌}
use Rattle.arrow_integers.proofs.NativeArithmeticsLemmas.{wrapped-remainder}
use Rattle.arrow_integers.proofs.native_arithmetics.AnyNativeArithmetics.wrapping_rem.Goals as goal

pub returns : goal.returns
returns g c =
    wrapped-remainder g.T.Number.value g.T.NativeInteger.of_number g.met.T.NativeInteger.number_of_value_law
    g.T.NativeInteger.signed g.T.NativeInteger.width c.args.self c.args.rhs
    c.as_i128.ensures.fits c.as_i128-2.ensures.fits c.requires c.unwrap_or.result c.checked_rem.result c.default.result
    (ap g.T.Number.value c.default.ensures ∙ g.met.T.NativeInteger.zero_value_law)
    c.checked_rem.ensures c.unwrap_or.ensures
