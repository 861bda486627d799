use Rattle.std.proofs.Common.{arith}
use Rattle.arrow_types.proofs.CallerLemmas.{next-bit_gap, next-bit_set, next-bit_within, no-bit_left}
use Rattle.compute_base.proofs.bits.next_set.Goals as goal

pub returns-then-rest-eq0-clause-clear : goal.returns-then-rest-eq0-clause-clear
returns-then-rest-eq0-clause-clear c = λ k low high.
    no-bit_left c.args.word c.args.from c.ranges.word.fits c.if-rest-eq0.true k low

pub returns-clause-high : goal.returns-clause-high
returns-clause-high c = omega (arith, next-bit_within c.args.word c.args.from c.ranges.word.fits (omega arith))

pub returns-clause-clear : goal.returns-clause-clear
returns-clause-clear c = next-bit_gap c.args.word c.args.from c.ranges.word.fits (omega arith)

pub returns-clause-set : goal.returns-clause-set
returns-clause-set c = λ within. next-bit_set c.args.word c.args.from c.ranges.word.fits (omega arith)
