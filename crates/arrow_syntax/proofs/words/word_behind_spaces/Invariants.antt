use Rattle.std.proofs.Common.{◌≡◌}
use Rattle.arrow_syntax.specs.Words.{words_of}
use Rattle.arrow_syntax.proofs.Pieces.{words_after, length_after}
use Rattle.arrow_syntax.proofs.words.word_behind_spaces.Given as goal

abbrev pub invariant-loop-rest : goal.invariant-loop-rest
invariant-loop-rest l = words_of l.fn.text ≡ words_after l.rest

abbrev pub decreases-loop-rest : goal.decreases-loop-rest
decreases-loop-rest l = length_after l.rest
