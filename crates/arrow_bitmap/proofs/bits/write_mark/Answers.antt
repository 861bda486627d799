use Rattle.std.proofs.Common.{◌/◌, ap, ◌∙◌, arith}
use Rattle.std.specs.Int.{bit_at}
use Rattle.std.proofs.lemmas.List.{get_or_read}
use Rattle.arrow_bitmap.proofs.MarkLemmas.{fills_by_bit}
use Rattle.arrow_bitmap.proofs.bits.write_mark.Goals as goal

pub returns-clause-marks : goal.returns-clause-marks
returns-clause-marks c =
    let bytes = c.args.bytes.now in
    let read = get_or_read bytes.items (c.args.index / 8) c.index-byte.result.now (omega (arith, bytes.ok.0))
    c.index-byte.ensures 0 in
    fills_by_bit bytes.items c.args.index c.with_bit.result c.args.value (omega (arith, bytes.ok.0))
    c.with_bit.ensures.same (λ k low apart. c.with_bit.ensures.others k low apart ∙ ap (λ b. bit_at b k) read)
