use Rattle.std.proofs.Common.{◌≡◌, length, map}
use Rattle.arrow_syntax.specs.Readers.{each}
use Rattle.arrow_syntax.specs.Words.{words_of}
use Rattle.arrow_syntax.proofs.Each.{behind}
use Rattle.arrow_syntax.proofs.readers.VecWords.of_words.Given as goal

abbrev pub invariant-loop-word : goal.invariant-loop-word
invariant-loop-word g l = each g.A.Word.parse (words_of l.fn.words)
    ≡ behind (map g.A.Word.meaning l.all.items) (each g.A.Word.parse (words_of l.rest))

abbrev pub decreases-loop-word : goal.decreases-loop-word
decreases-loop-word g l = length (words_of l.rest)
