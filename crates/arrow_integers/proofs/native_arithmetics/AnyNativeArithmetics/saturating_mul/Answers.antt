use Rattle.arrow_integers.proofs.NativeArithmeticsLemmas.{value-of}
use Rattle.arrow_integers.proofs.native_arithmetics.AnyNativeArithmetics.saturating_mul.Goals as goal

pub returns : goal.returns
returns g c =
    value-of g.T.Number.value g.T.NativeInteger.of_number g.met.T.NativeInteger.number_of_value_law
    c.saturating_mul.result _ (g.met.T.NativeInteger.nearest_integer_law _ (g.T.Number.value c.saturating_mul.result)
    (g.met.T.SaturatingMul.saturating_mul_law c.args.self c.args.rhs c.saturating_mul.result c.saturating_mul.ensures))
