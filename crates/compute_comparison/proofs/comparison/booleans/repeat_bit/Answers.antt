use Rattle.std.proofs.Common.{◌∙◌, sym}
use Rattle.arrow_types.proofs.CallerLemmas.{all-ones}
use Rattle.compute_comparison.proofs.comparison.booleans.repeat_bit.Goals as goal

pub returns-then-bit : goal.returns-then-bit
returns-then-bit c k low = all-ones k low ∙ sym c.if-bit.true
