use Rattle.std.proofs.Common.{◌≡◌, is_some, length}
use Rattle.arrow_syntax.specs.Fields.{hex_text}
use Rattle.arrow_syntax.proofs.hexadecimal.is_text.Given as goal

abbrev pub invariant-loop-rest : goal.invariant-loop-rest
invariant-loop-rest l = is_some (hex_text l.fn.digits) ≡ is_some (hex_text l.rest)

abbrev pub decreases-loop-rest : goal.decreases-loop-rest
decreases-loop-rest l = length l.rest
