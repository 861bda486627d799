use Rattle.std.proofs.Common.{arith}
use Rattle.compute_comparison.proofs.PairLemmas.{length-pairs}
use Rattle.compute_comparison.proofs.comparison.numbers.NumberPairsMarkSource.len.Goals as goal

pub returns : goal.returns
returns g c = omega (
  arith,
  c.min.ensures,
  length-pairs (λ truth. truth) g.C.Test.holds c.args.self.now.lhs.now c.args.self.now.rhs.now,
)
