use Rattle.arrow_bitmap.proofs.CountLemmas.{loaded-set}
use Rattle.arrow_bitmap.proofs.counts.four_words.Goals as goal

pub returns : goal.returns
returns c = loaded-set c.args.bytes.now c.args.first c.type_inv.bytes
