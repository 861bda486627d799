use Rattle.std.proofs.Common.{◌≡◌, drop}
use Rattle.arrow_syntax.specs.Fields.{parse_bit}
use Rattle.arrow_syntax.specs.Readers.{each}
use Rattle.arrow_syntax.proofs.Each.{behind}
use Rattle.arrow_syntax.proofs.bits.digits_of.Given as goal

abbrev pub invariant-loop-digit : goal.invariant-loop-digit
invariant-loop-digit l = each parse_bit l.fn.word ≡ behind l.bits.items (each parse_bit (drop l.digit-index l.word))
