use Rattle.std.proofs.Common.{◌==◌, ◌∙◌, ap, w8}
use Rattle.std.specs.Int.{bit_at}
use Rattle.std.proofs.lemmas.Nat.Bits.{bit_at-lt, bit_at_not}
use Rattle.arrow_types.proofs.CallerLemmas.{other-bit}
use Rattle.arrow_bitmap.proofs.ops.NegationMarkOp.on_bytes.Goals as goal

pub returns : goal.returns
returns c = λ k low. ap (λ b. b == 1) (bit_at_not w8 c.args.first k c.ranges.first.fits low)
    ∙ other-bit (bit_at c.args.first k) (bit_at-lt c.args.first k)
