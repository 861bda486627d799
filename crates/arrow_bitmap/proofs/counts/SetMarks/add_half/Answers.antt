use Rattle.std.proofs.Common.{◌≡◌, ◌+◌, ◌*◌, count_by, not, arith}
use Rattle.arrow_bitmap.specs.Blocks.{block_set}
use Rattle.arrow_bitmap.specs.Marks.{marks}
use Rattle.arrow_bitmap.proofs.CountLemmas.{clear-four}
use Rattle.arrow_bitmap.proofs.counts.SetMarks.add_half.Goals as goal

pub returns : goal.returns
returns c =
    let bytes = c.args.bytes.now in
    let first = c.args.first in
    let old = c.self.inside in
    let all : block_set c.add_digits-2.result.0 + 2 * block_set c.add_digits-3.result.0 + 4 *
    (old.fours + c.set_in_words.result) + count_by not (marks bytes (8 * first) 1024)
    ≡ block_set old.ones + 2 * block_set old.twos + 4 * old.fours + 1024 = omega (
      arith,
      clear-four bytes first,
      c.four_words.ensures,
      c.four_words-2.ensures,
      c.four_words-3.ensures,
      c.four_words-4.ensures,
      c.add_digits.ensures,
      c.add_digits-2.ensures,
      c.add_digits-3.ensures,
      c.set_in_words.ensures,
    ) in
    rw (← c.self.view_is) all
