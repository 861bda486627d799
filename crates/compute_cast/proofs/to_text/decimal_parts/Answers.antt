use Rattle.arrow_column.specs.Column.{slots_of}
use Rattle.compute_cast.specs.Stored.{decimal_text}
use Rattle.compute_cast.proofs.TextLemmas.{next-held, next-slot}
use Rattle.compute_cast.proofs.to_text.decimal_parts.Goals as goal

pub loop-i-preserved : goal.loop-i-preserved
loop-i-preserved g c =
    let number = g.A.NumberSlots.number in
    let slots = slots_of (g.A.Array.column c.args.array.now) in
    let pushed = c.in_ok-push_decimal.ensures in
    let read = c.get_number.result in
    let next = next-slot number slots c.loop-i.i read c.get_number.ensures in
    next-held number g.O.Offset.most g.K.ByteKind.is_text (g.K.ByteKind.default_type g.O.Offset.IS_LARGE) slots
    c.loop-i.i
    c.loop-i.offsets c.loop-i.bytes.items next.0 next.1 c.loop-i.invariant read next.2 c.push_decimal.new.offsets
    c.push_decimal.new.bytes.items pushed.fits pushed.end pushed.text
    (g.met.K.TextKind.ascii_item (decimal_text (λ z. z) read) pushed.ascii)
