use Rattle.std.proofs.Common.{◌≡◌, ◌+◌, ◌-◌, ◌*◌, ◌/◌, ◌∙◌, arith, length, subst}
use Rattle.compute_base.specs.Words.{HasMarks}
use Rattle.compute_base.proofs.WordLemmas.{more-marks}
use Rattle.compute_base.proofs.words.write_words_from.Goals as goal

pub loop-i-preserved : goal.loop-i-preserved
loop-i-preserved g c =
    let truths = g.S.MarkWords.marks c.args.source.now in
    let next : 64 * c.loop-i.i + 64 ≡ 64 * (c.loop-i.i + 1) = omega arith in
    record {
      written = subst (HasMarks truths c.write_word.new.target) next (more-marks truths c.loop-i.target
          c.write_word.new.target c.loop-i.i c.word.result 64 c.loop-i.invariant.written c.write_word.ensures.kept
          c.write_word.ensures.marks (omega arith) c.word.ensures);
      len = c.write_word.ensures.len ∙ c.loop-i.invariant.len;
    }

pub returns-then-place-len-clause-marks : goal.returns-then-place-len-clause-marks
returns-then-place-len-clause-marks g c =
    let truths = g.S.MarkWords.marks c.args.source.now in
    let written = c.write_word-then-place-len in
    let len = c.len-len.result in
    let words = len / 64 in
    let all : c.loop-i.i ≡ words = omega (arith, c.loop-i-test.false, c.loop-i.auto.i-end) in
    let end : 64 * words + (len - 64 * words) ≡ length truths = omega (arith, c.len-len.ensures) in
    subst (HasMarks truths written.new.target) end (more-marks truths c.loop-i.target written.new.target words
    c.word-then-place-len.result (len - 64 * words)
    (subst (λ i. HasMarks truths c.loop-i.target (64 * i)) all c.loop-i.invariant.written) written.ensures.kept
    written.ensures.marks (omega arith) c.word-then-place-len.ensures)
