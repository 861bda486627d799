use Rattle.arrow_bitmap.proofs.BlockLemmas.{loaded-mark}
use Rattle.arrow_bitmap.proofs.blocks.whole_block.Goals as goal

pub returns : goal.returns
returns c = loaded-mark c.args.bytes.now c.args.first 8 c.type_inv.bytes
