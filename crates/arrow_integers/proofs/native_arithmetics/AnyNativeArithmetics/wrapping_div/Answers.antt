use Rattle.arrow_integers.proofs.NativeArithmeticsLemmas.{wrapped-quotient}
use Rattle.arrow_integers.proofs.native_arithmetics.AnyNativeArithmetics.wrapping_div.Goals as goal

pub returns : goal.returns
returns g c =
    wrapped-quotient g.T.Number.value g.T.NativeInteger.of_number g.met.T.NativeInteger.number_of_value_law
    g.T.NativeInteger.signed g.T.NativeInteger.width c.args.self c.args.rhs
    c.as_i128.ensures.fits c.as_i128-2.ensures.fits c.requires c.unwrap_or.result
    c.checked_div.result c.checked_div.ensures c.unwrap_or.ensures
