use Rattle.std.proofs.Common.{◌≡◌, is_some, length}
use Rattle.arrow_syntax.specs.Readers.{each}
use Rattle.arrow_syntax.specs.Words.{words_of}
use Rattle.arrow_syntax.proofs.readers.VecWords.are_words.Given as goal

abbrev pub invariant-loop-word : goal.invariant-loop-word
invariant-loop-word g l = is_some (each g.A.Word.parse (words_of l.fn.words))
    ≡ is_some (each g.A.Word.parse (words_of l.rest))

abbrev pub decreases-loop-word : goal.decreases-loop-word
decreases-loop-word g l = length (words_of l.rest)
