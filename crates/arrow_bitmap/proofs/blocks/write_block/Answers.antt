use Rattle.arrow_bitmap.proofs.BlockLemmas.{bytes_of, kept-mark, written-mark}
use Rattle.arrow_bitmap.proofs.blocks.write_block.Goals as goal

pub returns-clause-marks : goal.returns-clause-marks
returns-clause-marks c = written-mark c.args.block c.fits-block.1 c.args.target.now c.args.at c.requires

pub returns-clause-kept : goal.returns-clause-kept
returns-clause-kept c = kept-mark c.args.target.now (bytes_of c.args.block) c.args.at
