use Rattle.arrow_integers.proofs.NativeArithmeticsLemmas.{checked-remainder}
use Rattle.arrow_integers.proofs.native_arithmetics.AnyNativeArithmetics.checked_rem.Goals as goal

pub returns : goal.returns
returns g c =
    let value = g.T.Number.value in
    let exact = g.met.T.Integral.exact_law in
    checked-remainder g.T.Number.value g.T.NativeInteger.of_number g.met.T.NativeInteger.number_of_value_law
    g.T.NativeInteger.signed g.T.NativeInteger.width g.T.Number.fits g.met.T.NativeInteger.fits_integer_law
    g.T.Number.nonzero (λ z f. g.T.Number.nonzero_law z exact f) (value c.args.self) (value c.args.rhs)
    c.as_i128-2.ensures.fits c.checked_rem.result c.as_i128.ensures.fits
    (g.met.T.CheckedRem.checked_rem_law c.args.self c.args.rhs c.checked_rem.result c.checked_rem.ensures)
