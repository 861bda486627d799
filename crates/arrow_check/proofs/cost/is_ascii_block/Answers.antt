use Rattle.arrow_check.proofs.AsciiLemmas.{block-match}
use Rattle.arrow_check.proofs.cost.is_ascii_block.Goals as goal

pub returns : goal.returns
returns c = block-match c.args.block c.fits-block.0
