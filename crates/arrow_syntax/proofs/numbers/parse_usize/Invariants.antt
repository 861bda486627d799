use Rattle.std.proofs.Common.{◌≡◌, drop}
use Rattle.arrow_syntax.proofs.NumberLemmas.{number_after}
use Rattle.arrow_syntax.proofs.numbers.parse_usize.Given as goal

abbrev pub invariant-loop-byte : goal.invariant-loop-byte
invariant-loop-byte l = number_after 0 l.word ≡ number_after l.number (drop l.byte-index l.word)
