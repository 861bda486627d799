use Rattle.std.proofs.Common.{◌≡◌, take}
use Rattle.arrow_syntax.proofs.words.same_bytes.Given as goal

abbrev pub invariant-loop-at : goal.invariant-loop-at
invariant-loop-at l = take l.at l.word ≡ take l.at l.name
