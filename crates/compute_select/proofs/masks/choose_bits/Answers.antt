use Rattle.compute_select.proofs.ChoiceLemmas.{chosen-bit}
use Rattle.compute_select.proofs.masks.choose_bits.Goals as goal

pub returns : goal.returns
returns c k low = chosen-bit c.args.predicate c.args.lhs c.args.rhs k c.ranges.predicate.fits low
