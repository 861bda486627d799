use Rattle.std.proofs.Common.{◌-◌, ◌^◌, ◌==◌, ◌||◌, ap, ◌∙◌}
use Rattle.std.specs.Int.{bit_at}
use Rattle.arrow_types.proofs.CallerLemmas.{not-bit, or-bit}
use Rattle.compute_comparison.proofs.BitLemmas.{bool_le}
use Rattle.compute_comparison.proofs.comparison.operators.LessOrEqualComparison.test_words.Goals as goal

pub returns : goal.returns
returns c = λ k low.
    or-bit (2 ^ 64 - 1 - c.args.lhs) c.args.rhs k
    ∙ ap (λ a. a || (bit_at c.args.rhs k == 1)) (not-bit c.args.lhs k c.ranges.lhs.fits low)
    ∙ bool_le (bit_at c.args.lhs k == 1) (bit_at c.args.rhs k == 1)
