use Rattle.arrow_bitmap.proofs.EqualityLemmas.{same-word}
use Rattle.arrow_bitmap.proofs.equality.same_word.Goals as goal

pub returns : goal.returns
returns c = same-word c.args.first c.args.second c.args.kept c.ranges.kept.fits
