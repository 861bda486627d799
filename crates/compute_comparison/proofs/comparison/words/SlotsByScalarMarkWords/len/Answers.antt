use Rattle.std.proofs.Common.{arith}
use Rattle.compute_comparison.proofs.NullLemmas.{length-tested_scalar}
use Rattle.compute_comparison.proofs.comparison.words.SlotsByScalarMarkWords.len.Goals as goal

pub returns : goal.returns
returns g c = omega (
  arith,
  c.len.ensures,
  length-tested_scalar g.A.EqualArray.equal g.C.Equality.holds (g.A.Array.column c.args.self.now.lhs.now).rows
      (g.S.EqualScalar.value c.args.self.now.rhs),
)
