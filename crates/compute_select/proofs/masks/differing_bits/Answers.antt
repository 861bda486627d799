use Rattle.std.proofs.Common.{◌-◌, ◌^◌, ◌<◌, ◌==◌, ◌&&◌, ◌∙◌, ap, arith, bit_and, not}
use Rattle.std.specs.Int.{bit_at}
use Rattle.std.proofs.lemmas.Nat.{and_le_l}
use Rattle.arrow_types.proofs.CallerLemmas.{and-bit, not-bit}
use Rattle.compute_select.proofs.masks.differing_bits.Goals as goal

pub returns : goal.returns
returns c k low =
    let both = bit_and c.args.others c.args.equal in
    let small : both < 2 ^ 64 = omega (arith, and_le_l c.args.others c.args.equal, c.ranges.others.fits) in
    and-bit c.args.marks (2 ^ 64 - 1 - both) k
    ∙ ap (λ b. (bit_at c.args.marks k == 1) && b)
    (not-bit both k small low ∙ ap not (and-bit c.args.others c.args.equal k))
