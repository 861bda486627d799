use Rattle.arrow_bitmap.proofs.EqualityLemmas.{word-agrees}
use Rattle.arrow_bitmap.proofs.equality.agree_in_word.Goals as goal

pub returns : goal.returns
returns c =
    let agrees = word-agrees c.args.first.now c.args.second.now c.args.mask.now c.args.place c.word.result
    c.word-2.result c.mask_word.result c.word.ensures c.word-2.ensures c.mask_word.ensures in
    (λ e. agrees.0 (c.same_word.ensures.0 e), λ marks. c.same_word.ensures.1 (agrees.1 marks))
