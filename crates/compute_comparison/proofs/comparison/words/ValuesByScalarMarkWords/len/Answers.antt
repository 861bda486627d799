use Rattle.std.proofs.Common.{arith}
use Rattle.std.proofs.lemmas.List.{length-map}
use Rattle.arrow_column.specs.Column.{stored_values}
use Rattle.compute_comparison.proofs.PairLemmas.{length-scalar}
use Rattle.compute_comparison.proofs.comparison.words.ValuesByScalarMarkWords.len.Goals as goal

pub returns : goal.returns
returns g c = omega (
  arith,
  c.len.ensures,
  length-map (g.A.Array.column c.args.self.now.lhs.now).rows (λ row. row.0),
  length-scalar g.C.Equality.holds g.A.EqualArray.equal (stored_values (g.A.Array.column c.args.self.now.lhs.now))
      (g.S.EqualScalar.value c.args.self.now.rhs),
)
