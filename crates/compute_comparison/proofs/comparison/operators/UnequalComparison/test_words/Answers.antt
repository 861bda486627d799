use Rattle.compute_comparison.proofs.BitLemmas.{xor_bit}
use Rattle.compute_comparison.proofs.comparison.operators.UnequalComparison.test_words.Goals as goal

pub returns : goal.returns
returns c = λ k low.
    xor_bit c.args.lhs c.args.rhs k
