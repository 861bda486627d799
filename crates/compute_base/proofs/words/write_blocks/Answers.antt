use Rattle.std.proofs.Common.{◌≡◌, ◌+◌, ◌*◌, ◌/◌, ◌∙◌, arith, subst}
use Rattle.compute_base.specs.Words.{HasMarks}
use Rattle.compute_base.proofs.WordLemmas.{more-block}
use Rattle.compute_base.proofs.words.write_blocks.Goals as goal

pub loop-i-preserved : goal.loop-i-preserved
loop-i-preserved g c =
    let truths = g.S.MarkWords.marks c.args.source.now in
    let next : 512 * c.loop-i.i + 512 ≡ 512 * (c.loop-i.i + 1) = omega arith in
    record {
      written = subst (HasMarks truths c.write_block.new.target) next (more-block truths c.loop-i.target
          c.write_block.new.target c.loop-i.i c.block.result c.loop-i.invariant.written c.write_block.ensures.kept
          c.write_block.ensures.marks c.block.ensures);
      len = c.write_block.ensures.len ∙ c.loop-i.invariant.len;
    }

pub write_words_from-requires-clause-written : goal.write_words_from-requires-clause-written
write_words_from-requires-clause-written g c =
    let truths = g.S.MarkWords.marks c.args.source.now in
    let blocks = c.len-blocks.result / 512 in
    let all : 512 * c.loop-i.i ≡ 64 * (8 * blocks) = omega (arith, c.loop-i-test.false, c.loop-i.auto.i-end) in
    subst (HasMarks truths c.loop-i.target) all c.loop-i.invariant.written
