use Rattle.compute_aggregate.proofs.FoldLemmas.{clear_more}
use Rattle.compute_aggregate.proofs.aggregate.numbers.skip_clear_words.Goals as goal

pub loop-i-preserved : goal.loop-i-preserved
loop-i-preserved c =
    clear_more c.args.mask.now c.word.result c.loop-i.i c.if-word-ne0.false c.loop-i.invariant c.word.ensures
