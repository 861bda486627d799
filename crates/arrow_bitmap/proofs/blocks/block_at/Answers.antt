use Rattle.std.proofs.Common.{◌≡◌, ◌+◌, ◌*◌, ap, ◌∙◌, arith, rules}
use Rattle.arrow_bitmap.specs.Marks.{mark_at}
use Rattle.arrow_bitmap.proofs.BlockLemmas.{moved-mark}
use Rattle.arrow_bitmap.proofs.blocks.block_at.Goals as goal

pub returns : goal.returns
returns c k low =
    let bytes = c.args.bytes.now in
    let first = c.args.first in
    moved-mark c.whole_block-low.result c.whole_block-high.result c.args.shift (λ i. mark_at bytes (8 * first + i))
    c.requires.within (omega arith) (omega arith) (search rules)
    c.whole_block-low.ensures
    (λ i lt. c.whole_block-high.ensures i lt ∙ ap (mark_at bytes) (let e : 8 * (first + 1) + i ≡ 8 * first + (8 + i) =
    omega arith in e)) k low
    ∙ ap (mark_at bytes) (let e : 8 * first + (c.args.shift + k) ≡ 8 * first + c.args.shift + k = omega arith in e)
