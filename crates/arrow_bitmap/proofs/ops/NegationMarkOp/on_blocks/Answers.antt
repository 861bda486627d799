use Rattle.arrow_bitmap.proofs.BlockLemmas.{not-block}
use Rattle.arrow_bitmap.proofs.ops.NegationMarkOp.on_blocks.Goals as goal

pub returns : goal.returns
returns c = not-block c.args.left c.fits-left.0 c.fits-left.1
