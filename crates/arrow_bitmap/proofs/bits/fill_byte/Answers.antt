use Rattle.std.proofs.Common.{◌/◌, ap, ◌∙◌, arith}
use Rattle.std.specs.Int.{bit_at}
use Rattle.std.proofs.lemmas.List.{get_or_read}
use Rattle.arrow_bitmap.proofs.MarkLemmas.{fills_top}
use Rattle.arrow_bitmap.proofs.bits.fill_byte.Goals as goal

pub returns-then-start-ne0-clause-marks : goal.returns-then-start-ne0-clause-marks
returns-then-start-ne0-clause-marks c =
    let bytes = c.args.bytes.now in
    let read = get_or_read bytes.items (c.args.start / 8) c.index-byte.result.now (omega arith) c.index-byte.ensures
    0 in
    fills_top bytes.items c.args.start c.with_top.result c.args.value (omega (arith, bytes.ok.0))
    c.if-start-ne0.true (λ k low. c.with_top.ensures.kept k low ∙ ap (λ b. bit_at b k) read)
    c.with_top.ensures.top
