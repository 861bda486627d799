use Rattle.arrow_integers.proofs.NativeArithmeticsLemmas.{checked-value}
use Rattle.arrow_integers.proofs.native_arithmetics.AnyNativeArithmetics.checked_add.Goals as goal

pub returns : goal.returns
returns g c =
    checked-value g.T.Number.value g.T.NativeInteger.of_number g.met.T.NativeInteger.number_of_value_law
    g.T.NativeInteger.signed g.T.NativeInteger.width g.T.Number.fits _ (g.met.T.NativeInteger.fits_integer_law _)
    c.checked_add.result (g.met.T.CheckedAdd.checked_add_law c.args.self c.args.rhs c.checked_add.result c.checked_add.ensures)
