use Rattle.std.proofs.Common.{◌≡◌, ◌+◌, ◌*◌, ◌/◌, ◌%◌, ap, ◌∙◌, arith}
use Rattle.arrow_bitmap.specs.Marks.{mark_at}
use Rattle.arrow_bitmap.proofs.blocks.block_from.Goals as goal

pub returns-then-shift-eq0 : goal.returns-then-shift-eq0
returns-then-shift-eq0 c k low =
    c.whole_block.ensures k low
    ∙ ap (mark_at c.args.bytes.now) (let e : 8 * (c.args.place / 8) + k ≡ c.args.place + k = omega arith in e)

pub returns : goal.returns
returns c k low =
    c.block_at.ensures k low
    ∙ ap (mark_at c.args.bytes.now) (let e : 8 * (c.args.place / 8) + c.args.place % 8 + k ≡ c.args.place + k =
    omega arith in e)
