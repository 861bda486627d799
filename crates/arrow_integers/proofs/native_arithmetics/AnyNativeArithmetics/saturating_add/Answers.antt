use Rattle.arrow_integers.proofs.NativeArithmeticsLemmas.{value-of}
use Rattle.arrow_integers.proofs.native_arithmetics.AnyNativeArithmetics.saturating_add.Goals as goal

pub returns : goal.returns
returns g c =
    value-of g.T.Number.value g.T.NativeInteger.of_number g.met.T.NativeInteger.number_of_value_law
    c.saturating_add.result _ (g.met.T.NativeInteger.nearest_integer_law _ (g.T.Number.value c.saturating_add.result)
    (g.met.T.SaturatingAdd.saturating_add_law c.args.self c.args.rhs c.saturating_add.result c.saturating_add.ensures))
