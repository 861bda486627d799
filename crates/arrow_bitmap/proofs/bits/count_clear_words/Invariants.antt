use Rattle.std.proofs.Common.{◌≡◌, ◌+◌, ◌*◌, count_by, not}
use Rattle.arrow_bitmap.specs.Marks.{marks}
use Rattle.arrow_bitmap.proofs.bits.count_clear_words.Given as goal

abbrev pub invariant-loop-index : goal.invariant-loop-index
invariant-loop-index l = l.set + count_by not (marks l.bytes (8 * l.first) (64 * l.index)) ≡ 64 * l.index
