use Rattle.std.proofs.Common.{arith}
use Rattle.compute_comparison.proofs.KleeneLemmas.{length-known}
use Rattle.compute_comparison.proofs.boolean_kleene.KnownMarkWords.len.Goals as goal

pub returns : goal.returns
returns g c = omega (
  arith,
  c.min.ensures,
  c.len.ensures,
  c.len-2.ensures,
  length-known g.K.KleeneOperation.table c.args.self.now.lhs.now c.args.self.now.rhs.now,
)
