use Rattle.compute_base.proofs.WordLemmas.{HoldsFirst}
use Rattle.compute_base.proofs.words.pack_few.Given as goal

abbrev pub invariant-loop-i : goal.invariant-loop-i
invariant-loop-i g l = HoldsFirst l.word (g.S.MarkSource.marks l.source) l.place l.i
