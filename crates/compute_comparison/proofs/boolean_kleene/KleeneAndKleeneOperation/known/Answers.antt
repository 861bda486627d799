use Rattle.compute_comparison.proofs.KleeneLemmas.{known_and_bit}
use Rattle.compute_comparison.proofs.boolean_kleene.KleeneAndKleeneOperation.known.Goals as goal

pub returns : goal.returns
returns c k low = known_and_bit c.args.left c.args.left_marks c.args.right c.args.right_marks k c.ranges.left.fits c.ranges.right.fits low
