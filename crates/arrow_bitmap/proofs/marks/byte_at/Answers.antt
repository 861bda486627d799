use Rattle.std.proofs.Common.{◌/◌, ◌%◌, ◌∙◌, arith}
use Rattle.arrow_bitmap.proofs.CopyLemmas.{mark_at-two}
use Rattle.arrow_bitmap.proofs.marks.byte_at.Goals as goal

pub returns : goal.returns
returns c = λ k low.
    c.between.ensures k low ∙ mark_at-two c.args.bytes.now c.byte_or_clear-low.result c.byte_or_clear-high.result
    (c.args.place / 8) (c.args.place % 8) c.args.place
    c.byte_or_clear-low.ensures c.byte_or_clear-high.ensures (omega arith) (omega arith) k low
