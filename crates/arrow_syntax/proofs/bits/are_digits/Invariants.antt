use Rattle.std.proofs.Common.{◌≡◌, drop, is_some}
use Rattle.arrow_syntax.specs.Fields.{parse_bit}
use Rattle.arrow_syntax.specs.Readers.{each}
use Rattle.arrow_syntax.proofs.bits.are_digits.Given as goal

abbrev pub invariant-loop-digit : goal.invariant-loop-digit
invariant-loop-digit l = is_some (each parse_bit l.fn.word) ≡ is_some (each parse_bit (drop l.digit-index l.word))
