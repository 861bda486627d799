use Rattle.std.proofs.Common.{◌-◌, ◌^◌, ◌<◌, ◌==◌, ◌&&◌, ◌||◌, ◌∙◌, ap, ap₂, bit_and, bit_or, not}
use Rattle.std.specs.Int.{bit_at}
use Rattle.std.proofs.lemmas.Nat.{or_lt}
use Rattle.arrow_types.proofs.CallerLemmas.{and-bit, not-bit, or-bit}
use Rattle.compute_comparison.proofs.comparison.words.equal_slot_bits.Goals as goal

pub returns : goal.returns
returns c k low =
    let equal = c.args.equal in
    let left = c.args.left in
    let right = c.args.right in
    let any = bit_or left right in
    let small : any < 2 ^ 64 = or_lt 64 left right c.ranges.left.fits c.ranges.right.fits in
    or-bit (bit_and equal (bit_and left right)) (2 ^ 64 - 1 - any) k
    ∙ ap₂ ◌||◌ (and-bit equal (bit_and left right) k ∙ ap (λ b. (bit_at equal k == 1) && b) (and-bit left right k))
    (not-bit any k small low ∙ ap not (or-bit left right k))
