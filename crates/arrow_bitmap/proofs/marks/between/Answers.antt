use Rattle.arrow_bitmap.proofs.CopyLemmas.{between-mark}
use Rattle.arrow_bitmap.proofs.marks.between.Goals as goal

pub returns : goal.returns
returns c = between-mark c.args.low c.args.high c.args.shift c.ranges.low.fits c.requires
