use Rattle.std.proofs.Common.{arith}
use Rattle.std.specs.Ordering.{bool_cmp}
use Rattle.compute_comparison.proofs.PairLemmas.{length-pairs}
use Rattle.compute_comparison.proofs.comparison.booleans.BooleanPairsMarkWords.len.Goals as goal

pub returns : goal.returns
returns g c = omega (
  arith,
  c.min.ensures,
  c.len.ensures,
  c.len-2.ensures,
  length-pairs g.C.Comparison.test bool_cmp c.args.self.now.lhs.now c.args.self.now.rhs.now,
)
