use Rattle.std.proofs.Common.{arith}
use Rattle.compute_base.proofs.CallerLemmas.{length-of_pairs}
use Rattle.compute_arithmetics.proofs.combine.CheckedPairsSlotSource.len.Goals as goal

pub returns : goal.returns
returns g c = omega (
  arith,
  c.min.ensures,
  length-of_pairs g.O.CheckedOperation.make c.args.self.now.lhs.now c.args.self.now.rhs.now,
)
