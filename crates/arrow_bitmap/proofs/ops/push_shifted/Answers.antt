use Rattle.std.proofs.Common.{◌+◌, ◌-◌, ◌*◌, ◌/◌, ◌<◌, ◌==◌, ◌∙◌, arith, length}
use Rattle.std.specs.Int.{bit_at}
use Rattle.arrow_bitmap.proofs.AppendLemmas.{appends-byte, appends-fewer, read-pair}
use Rattle.arrow_bitmap.proofs.ops.push_shifted.Goals as goal

pub returns-clause-marks : goal.returns-clause-marks
returns-clause-marks g c =
    let op = g.O.MarkOp.op in
    let first = c.args.first.now in
    let second = c.args.second.now in
    let last = (c.len.result - 1) / 8 in
    let old = c.args.bytes.items in
    let grown = c.push_bytes-grown.result.items in
    appends-byte op first second last old grown c.push_reserved.new.self.items c.on_bytes.result
    (omega (arith, c.push_bytes-grown.ensures.len, c.push_bytes-grown.result.ok.0, c.args.bytes.ok.0))
    c.push_reserved.ensures.items (λ k bit low.
    let lower : 8 * last + k < length second = omega (arith, low, c.requires.same) in
    c.on_bytes.ensures k bit ∙ read-pair op first second (8 * last + k) (bit_at c.byte.result k == 1)
    (bit_at c.byte-2.result k == 1) low lower (c.byte.ensures k bit low) (c.byte-2.ensures k bit lower))
    (λ n few within. appends-fewer op first second 0 (8 * last) n old grown few c.push_bytes-grown.ensures.marks)
    (length first) (omega (arith, c.len.ensures)) (omega arith)
