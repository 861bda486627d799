use Rattle.std.proofs.Common.{◌+◌, ◌/◌, ◌∙◌, refl, arith}
use Rattle.arrow_bitmap.proofs.MarkLemmas.{mark_of_byte, mark_of_same, same_marks}
use Rattle.arrow_bitmap.proofs.bits.grow_bytes.Goals as goal

pub returns-in_err-resize-clause-kept : goal.returns-in_err-resize-clause-kept
returns-in_err-resize-clause-kept c =
    same_marks _ _ 0 0 c.args.length (λ i low. mark_of_same c.resize.new.self.items c.args.bytes.now.items (0 + i)
    (c.resize.ensures.by_index.0 ((0 + i) / 8) 0 (omega arith) (omega arith)
    ∙ c.truncate.ensures.by_index ((0 + i) / 8) 0 (omega arith)))

pub returns-clause-kept : goal.returns-clause-kept
returns-clause-kept c =
    same_marks _ _ 0 0 c.args.length (λ i low. mark_of_same c.resize.new.self.items c.args.bytes.now.items (0 + i)
    (c.resize.ensures.by_index.0 ((0 + i) / 8) 0 (omega arith) (omega arith)
    ∙ c.truncate.ensures.by_index ((0 + i) / 8) 0 (omega arith)))

pub returns-clause-filled : goal.returns-clause-filled
returns-clause-filled c = λ i past low. mark_of_byte c.resize.new.self.items i c.byte_of.result c.args.value
    (c.in_ok-resize.ensures.by_index.1 (i / 8) 0 refl (omega arith) (omega arith)) c.byte_of.ensures
