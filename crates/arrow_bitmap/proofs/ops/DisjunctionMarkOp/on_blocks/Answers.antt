use Rattle.arrow_bitmap.proofs.BlockLemmas.{or-block}
use Rattle.arrow_bitmap.proofs.ops.DisjunctionMarkOp.on_blocks.Goals as goal

pub returns : goal.returns
returns c = or-block c.args.left c.args.right c.fits-left.0 c.fits-right.0
