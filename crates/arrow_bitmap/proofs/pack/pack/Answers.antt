use Rattle.std.proofs.Common.{◌+◌, ◌-◌, ◌*◌, ◌/◌, ap, ◌∙◌, length, refl, arith}
use Rattle.arrow_bitmap.specs.Marks.{mark_at}
use Rattle.arrow_bitmap.proofs.CopyLemmas.{packed_byte, marks-packed}
use Rattle.arrow_bitmap.proofs.pack.pack.Goals as goal
use Rattle.arrow_bitmap.proofs.pack.pack.Goals.{then-whole-values, else-whole-values}

pub loop-index-preserved : goal.loop-index-preserved
loop-index-preserved c =
    let index = c.loop-index.index in
    record {
      len = omega arith;
      room = omega arith;
      packed = λ k low. ap (λ bytes. mark_at bytes k) c.push_reserved.ensures.items
          ∙ packed_byte c.args.values.now c.loop-index.bytes.items c.pack_byte.result index (8 * index)
          (8 * index + 8 - 8 * index) (8 * (index + 1)) (omega arith) refl (omega arith) (omega arith)
          c.loop-index.invariant.packed c.pack_byte.ensures k low;
    }

pub returns-clause-ok : goal.returns-clause-ok
returns-clause-ok c =
    let values = c.args.values.now in
    let whole = length values / 8 in
    let index = c.loop-index.index in
    elim c.if-whole-values.branch [
      | then-whole-values w ↦
          marks-packed values c.if-whole-values.bytes.items (λ k low.
          ap (λ bytes. mark_at bytes.items k) w.bytes-is
          ∙ ap (λ bytes. mark_at bytes k) w.push_reserved-then-whole-values.ensures.items
          ∙ packed_byte values c.loop-index.bytes.items w.pack_byte-then-whole-values.result index (8 * whole)
          (length values - 8 * whole) (length values) (omega arith) (omega arith) (omega arith) (omega arith)
          c.loop-index.invariant.packed w.pack_byte-then-whole-values.ensures k low)
      | else-whole-values w ↦
          marks-packed values c.if-whole-values.bytes.items (λ k low.
          ap (λ bytes. mark_at bytes.items k) w.bytes-is
          ∙ c.loop-index.invariant.packed k (omega (arith, w.if-whole-values.false)))
    ]
