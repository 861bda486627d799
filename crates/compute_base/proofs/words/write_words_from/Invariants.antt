use Rattle.std.proofs.Common.{◌≡◌, ◌*◌, length}
use Rattle.std.specs.Int.{div_ceil}
use Rattle.compute_base.specs.Words.{HasMarks}
use Rattle.compute_base.proofs.words.write_words_from.Given as goal

abbrev pub invariant-loop-i : goal.invariant-loop-i
invariant-loop-i g l =
    let truths = g.S.MarkWords.marks l.source in record {
      written : HasMarks truths l.target (64 * l.i);
      len : length l.target ≡ 8 * div_ceil (length truths) 64;
    }
