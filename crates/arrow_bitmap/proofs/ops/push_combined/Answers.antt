use Rattle.std.proofs.Common.{◌+◌, ◌*◌, ◌<◌, ◌∙◌, ap₂, arith, get_or, length, refl, sym, zero-add}
use Rattle.arrow_bitmap.proofs.AppendLemmas.{appends-byte, marked-from}
use Rattle.arrow_bitmap.proofs.ByteWords.{bit-mark}
use Rattle.arrow_bitmap.proofs.ops.push_combined.Goals as goal

pub loop-i-preserved : goal.loop-i-preserved
loop-i-preserved g c =
    let op = g.O.MarkOp.op in
    let first = c.args.first.now in
    let second = c.args.second.now in
    let i = c.loop-i.i in
    let left = c.in-Some-Some.left.now in
    let right = c.in-Some-Some.right.now in record {
      appended = appends-byte op first second i c.args.bytes.items c.loop-i.grown.items c.push_reserved.new.self.items
          c.on_bytes.result (omega (arith, c.loop-i.invariant.long, c.loop-i.grown.ok.0, c.args.bytes.ok.0))
          c.push_reserved.ensures.items (λ k bit low.
          let lower : 8 * i + k < length second = omega (arith, low, c.requires.same) in
          c.on_bytes.ensures k bit
          ∙ ap₂ op (bit-mark left i (get_or left i 0) k (8 * i + k) refl bit refl
          ∙ marked-from left 0 first c.in-Some-Some.ensures.marks (8 * i + k) (8 * i + k) low (sym (zero-add (8 * i + k))))
          (bit-mark right i (get_or right i 0) k (8 * i + k) refl bit refl
          ∙ marked-from right 0 second c.in-Some-Some.ensures'.marks (8 * i + k) (8 * i + k) lower
          (sym (zero-add (8 * i + k))))) c.loop-i.invariant.appended;
      long = omega (arith, c.loop-i.invariant.long, c.push_reserved.ensures.len);
      capacity = omega (arith, c.push_reserved.ensures.capacity, c.loop-i.invariant.capacity);
    }
