use Rattle.std.proofs.Common.{◌-◌, ◌^◌, ◌==◌, ◌&&◌, ap, ◌∙◌}
use Rattle.std.specs.Int.{bit_at}
use Rattle.arrow_types.proofs.CallerLemmas.{and-bit, not-bit}
use Rattle.compute_comparison.proofs.BitLemmas.{bool_lt}
use Rattle.compute_comparison.proofs.comparison.operators.LessComparison.test_words.Goals as goal

pub returns : goal.returns
returns c = λ k low.
    and-bit (2 ^ 64 - 1 - c.args.lhs) c.args.rhs k
    ∙ ap (λ a. a && (bit_at c.args.rhs k == 1)) (not-bit c.args.lhs k c.ranges.lhs.fits low)
    ∙ bool_lt (bit_at c.args.lhs k == 1) (bit_at c.args.rhs k == 1)
