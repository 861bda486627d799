use Rattle.arrow_bitmap.proofs.BlockLemmas.{and-block}
use Rattle.arrow_bitmap.proofs.ops.ConjunctionMarkOp.on_blocks.Goals as goal

pub returns : goal.returns
returns c = and-block c.args.left c.args.right c.fits-left.0 c.fits-right.0
