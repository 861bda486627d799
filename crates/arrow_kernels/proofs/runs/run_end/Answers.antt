use Rattle.std.proofs.Common.{arith}
use Rattle.arrow_kernels.proofs.RunLemmas.{run-more, run-set, run-within}
use Rattle.arrow_kernels.proofs.runs.run_end.Goals as goal

pub returns-clause-more : goal.returns-clause-more
returns-clause-more c = omega (
  arith,
  c.trailing_ones.ensures,
  run-more c.args.word c.args.first c.ranges.word.fits c.requires.within c.requires.set,
)

pub returns-clause-high : goal.returns-clause-high
returns-clause-high c = omega (
  arith,
  c.trailing_ones.ensures,
  run-within c.args.word c.args.first c.ranges.word.fits c.requires.within c.requires.set,
)

pub returns-clause-set : goal.returns-clause-set
returns-clause-set c = λ k low high. run-set c.args.word c.args.first c.ranges.word.fits c.requires.within
    c.requires.set k low (omega (arith, high, c.trailing_ones.ensures))
