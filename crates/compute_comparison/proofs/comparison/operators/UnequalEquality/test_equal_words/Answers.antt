use Rattle.arrow_types.proofs.CallerLemmas.{not-bit}
use Rattle.compute_comparison.proofs.comparison.operators.UnequalEquality.test_equal_words.Goals as goal

pub returns : goal.returns
returns c k low = not-bit c.args.equal k c.ranges.equal.fits low
