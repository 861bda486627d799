use Rattle.compute_comparison.proofs.KleeneLemmas.{known_or_bit}
use Rattle.compute_comparison.proofs.boolean_kleene.KleeneOrKleeneOperation.known.Goals as goal

pub returns : goal.returns
returns c k low = known_or_bit c.args.left c.args.left_marks c.args.right c.args.right_marks k
