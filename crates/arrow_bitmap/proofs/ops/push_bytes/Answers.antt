use Rattle.std.proofs.Common.{◌+◌, ◌*◌, ◌<◌, ◌==◌, ◌∙◌, arith, length}
use Rattle.std.specs.Int.{bit_at}
use Rattle.arrow_bitmap.proofs.AppendLemmas.{appends-byte, read-pair}
use Rattle.arrow_bitmap.proofs.ops.push_bytes.Goals as goal

pub overflow_mul-i : goal.overflow_mul-i
overflow_mul-i g c = omega (arith, c.loop-i-test.true, c.requires.fits)

pub overflow_mul-i-in-loop-i : goal.overflow_mul-i-in-loop-i
overflow_mul-i-in-loop-i g c = omega (arith, c.loop-i-test.true, c.requires.fits)

pub loop-i-preserved : goal.loop-i-preserved
loop-i-preserved g c =
    let op = g.O.MarkOp.op in
    let first = c.args.first.now in
    let second = c.args.second.now in
    let i = c.loop-i.i in record {
      appended = appends-byte op first second i c.args.bytes.items c.loop-i.grown.items c.push_reserved.new.self.items
          c.on_bytes.result (omega (arith, c.loop-i.invariant.long, c.loop-i.grown.ok.0, c.args.bytes.ok.0))
          c.push_reserved.ensures.items (λ k bit low.
          let lower : 8 * i + k < length second = omega (arith, bit, c.loop-i-test.true, c.requires.second) in
          c.on_bytes.ensures k bit ∙ read-pair op first second (8 * i + k) (bit_at c.byte.result k == 1)
          (bit_at c.byte-in-loop-i.result k == 1) low lower (c.byte.ensures k bit low) (c.byte-in-loop-i.ensures k bit lower))
          c.loop-i.invariant.appended;
      long = omega (arith, c.loop-i.invariant.long, c.push_reserved.ensures.len);
      capacity = omega (arith, c.push_reserved.ensures.capacity, c.loop-i.invariant.capacity);
    }

pub returns-clause-marks : goal.returns-clause-marks
returns-clause-marks g c = c.loop-i.invariant.appended (8 * c.args.n)
    (omega (arith, c.loop-i-test.false, c.loop-i.auto.i-end)) (omega (arith, c.requires.first))
