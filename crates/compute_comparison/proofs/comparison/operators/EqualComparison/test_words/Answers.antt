use Rattle.std.proofs.Common.{◌==◌, not, bit_xor, ap, ◌∙◌}
use Rattle.std.specs.Int.{bit_at}
use Rattle.std.proofs.lemmas.Nat.{xor_lt}
use Rattle.arrow_types.proofs.CallerLemmas.{not-bit}
use Rattle.compute_comparison.proofs.BitLemmas.{not_ne, xor_bit}
use Rattle.compute_comparison.proofs.comparison.operators.EqualComparison.test_words.Goals as goal

pub returns : goal.returns
returns c = λ k low.
    not-bit (bit_xor c.args.lhs c.args.rhs) k (xor_lt 64 c.args.lhs c.args.rhs c.ranges.lhs.fits c.ranges.rhs.fits) low
    ∙ ap not (xor_bit c.args.lhs c.args.rhs k)
    ∙ not_ne (bit_at c.args.lhs k == 1) (bit_at c.args.rhs k == 1)
