use Rattle.std.proofs.Common.{◌≡◌, length}
use Rattle.compute_comparison.proofs.KleeneLemmas.{KnownLanes}
use Rattle.compute_comparison.proofs.boolean_kleene.known_block.Given as goal

abbrev pub invariant-loop-i : goal.invariant-loop-i
invariant-loop-i g l = record {
  known : KnownLanes g.K.KleeneOperation.table l.left_values l.left_marks l.right_values l.right_marks l.known l.i;
  len : length l.known ≡ 8;
}
