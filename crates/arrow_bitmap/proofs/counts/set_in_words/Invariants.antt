use Rattle.std.proofs.Common.{◌≡◌, ◌≤◌, ◌*◌, take}
use Rattle.arrow_bitmap.specs.Blocks.{block_set}
use Rattle.arrow_bitmap.proofs.counts.set_in_words.Given as goal

abbrev pub invariant-loop-index : goal.invariant-loop-index
invariant-loop-index l = record {
  set : l.set ≡ block_set (take l.index l.words);
  fits : l.set ≤ 64 * l.index;
}
