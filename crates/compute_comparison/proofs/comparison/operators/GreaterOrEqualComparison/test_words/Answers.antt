use Rattle.std.proofs.Common.{◌-◌, ◌^◌, ◌==◌, ◌||◌, ap, ◌∙◌}
use Rattle.std.specs.Int.{bit_at}
use Rattle.arrow_types.proofs.CallerLemmas.{not-bit, or-bit}
use Rattle.compute_comparison.proofs.BitLemmas.{bool_ge}
use Rattle.compute_comparison.proofs.comparison.operators.GreaterOrEqualComparison.test_words.Goals as goal

pub returns : goal.returns
returns c = λ k low.
    or-bit c.args.lhs (2 ^ 64 - 1 - c.args.rhs) k
    ∙ ap (λ b. (bit_at c.args.lhs k == 1) || b) (not-bit c.args.rhs k c.ranges.rhs.fits low)
    ∙ bool_ge (bit_at c.args.lhs k == 1) (bit_at c.args.rhs k == 1)
