use Rattle.std.proofs.Common.{◌≡◌, ◌+◌, ◌-◌, ◌*◌, ◌≤◌, ◌∙◌, Some, ap, arith, length, slice_get, subst}
use Rattle.arrow_bitmap.specs.Marks.{block_mark, mark_at}
use Rattle.arrow_bitmap.proofs.AppendLemmas.{read-pair, writes-block}
use Rattle.arrow_bitmap.proofs.ops.write_blocks.Goals as goal

pub loop-block-preserved : goal.loop-block-preserved
loop-block-preserved g c =
    let op = g.O.MarkOp.op in
    let first = c.args.first.now in
    let second = c.args.second.now in
    let from = c.args.from in
    let at = 512 * c.loop-block.block in
    let inside : at + 512 ≤ 8 * (length c.args.target.now - from) = omega (arith, c.loop-block-test.true) in record {
      marks = writes-block op first second from at at (512 * (c.loop-block.block + 1)) c.args.target.now
          c.loop-block.target c.write_block.new.target c.on_blocks-marks.result (omega arith) (omega arith)
          (λ i low. c.write_block.ensures.kept i (omega (arith, low))) (λ k few.
          let place : 8 * from + at + k ≡ 8 * (from + 64 * c.loop-block.block) + k = omega arith in
          ap (mark_at c.write_block.new.target) place ∙ c.write_block.ensures.marks k few)
          (λ k few. c.on_blocks-marks.ensures k few
          ∙ read-pair op first second (at + k) (block_mark c.block.result k) (block_mark c.block-in-loop-block.result k)
          (omega (arith, few, inside, c.requires.first)) (omega (arith, few, inside, c.requires.second))
          (subst (λ xs. slice_get xs (at + k) ≡ Some (block_mark c.block.result k)) c.copied-first.ensures (c.block.ensures k few))
          (subst (λ xs. slice_get xs (at + k) ≡ Some (block_mark c.block-in-loop-block.result k)) c.copied-second.ensures
          (c.block-in-loop-block.ensures k few))) c.loop-block.invariant.marks;
      long = c.write_block.ensures.len ∙ c.loop-block.invariant.long;
    }

pub returns-clause-marks : goal.returns-clause-marks
returns-clause-marks g c =
    let op = g.O.MarkOp.op in
    let first = c.args.first.now in
    let second = c.args.second.now in
    let from = c.args.from in
    let count = length c.args.target.now - from in
    let at = 8 * (count - 64) in
    let some : 64 ≤ count = omega (arith, c.requires.some) in
    writes-block op first second from at (512 * c.loop-block.block) (8 * count) c.args.target.now c.loop-block.target
    c.write_block-2.new.target c.on_blocks-marks-2.result
    (omega (arith, c.loop-block-test.false, c.loop-block.auto.block-end)) (omega (arith, some))
    (λ i low. c.write_block-2.ensures.kept i (omega (arith, low, some))) (λ k few.
    let place : 8 * from + at + k ≡ 8 * (from + (count - 64)) + k = omega arith in
    ap (mark_at c.write_block-2.new.target) place ∙ c.write_block-2.ensures.marks k few)
    (λ k few. c.on_blocks-marks-2.ensures k few
    ∙ read-pair op first second (at + k) (block_mark c.block-2.result k) (block_mark c.block-3.result k)
    (omega (arith, few, some, c.requires.first)) (omega (arith, few, some, c.requires.second))
    (subst (λ xs. slice_get xs (at + k) ≡ Some (block_mark c.block-2.result k)) c.copied-first.ensures (c.block-2.ensures k few))
    (subst (λ xs. slice_get xs (at + k) ≡ Some (block_mark c.block-3.result k)) c.copied-second.ensures
    (c.block-3.ensures k few))) c.loop-block.invariant.marks
