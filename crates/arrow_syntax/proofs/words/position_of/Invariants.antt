use Rattle.arrow_syntax.proofs.Places.{NoneBelow}
use Rattle.std.proofs.Common.{◌==◌}
use Rattle.arrow_syntax.proofs.words.position_of.Given as goal

abbrev pub invariant-loop-place : goal.invariant-loop-place
invariant-loop-place l = NoneBelow (λ b. b == l.fn.byte) l.text l.place
