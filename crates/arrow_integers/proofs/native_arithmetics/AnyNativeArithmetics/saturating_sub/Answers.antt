use Rattle.arrow_integers.proofs.NativeArithmeticsLemmas.{value-of}
use Rattle.arrow_integers.proofs.native_arithmetics.AnyNativeArithmetics.saturating_sub.Goals as goal

pub returns : goal.returns
returns g c =
    value-of g.T.Number.value g.T.NativeInteger.of_number g.met.T.NativeInteger.number_of_value_law
    c.saturating_sub.result _ (g.met.T.NativeInteger.nearest_integer_law _ (g.T.Number.value c.saturating_sub.result)
    (g.met.T.SaturatingSub.saturating_sub_law c.args.self c.args.rhs c.saturating_sub.result c.saturating_sub.ensures))
