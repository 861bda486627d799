use Rattle.compute_base.proofs.WordLemmas.{HoldsFirst}
use Rattle.compute_base.proofs.words.few_of.Given as goal

abbrev pub invariant-loop-i : goal.invariant-loop-i
invariant-loop-i l = HoldsFirst l.word l.bitmap l.place l.i
