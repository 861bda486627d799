use Rattle.std.proofs.Common.{◌+◌, ◌*◌, ◌-◌, ◌/◌, arith}
use Rattle.arrow_bitmap.proofs.EqualityLemmas.{more-places}
use Rattle.arrow_bitmap.proofs.equality.agree_where.Goals as goal

pub loop-word-preserved : goal.loop-word-preserved
loop-word-preserved c = λ i low. more-places c.args.first.now c.args.second.now c.args.mask.now
    (64 * c.loop-word.word) (64 * c.loop-word.word) (omega arith) c.loop-word.invariant
    (c.agree_in_word.ensures.0 c.if-not-agree_in_word.false) i (omega (arith, low))

pub returns : goal.returns
returns c =
    let count = c.len-count.result in (
      λ e i low. more-places c.args.first.now c.args.second.now c.args.mask.now (64 * (count / 64)) (count - 64)
          (omega (arith, c.if-count-lt64.false))
          (λ k h. c.loop-word.invariant k (omega (arith, h, c.loop-word-test.false, c.loop-word.auto.word-end)))
          (c.agree_in_word-2.ensures.0 e) i (omega (arith, low, c.len-count.ensures, c.if-count-lt64.false)),
      λ same. c.agree_in_word-2.ensures.1 (λ k low.
          same (count - 64 + k) (omega (arith, low, c.len-count.ensures, c.if-count-lt64.false))),
    )
