use Rattle.std.proofs.Common.{◌≡◌, ◌+◌, ◌*◌, count_by, not}
use Rattle.arrow_bitmap.specs.Marks.{marks}
use Rattle.arrow_bitmap.proofs.counts.count_clear_turns.Given as goal

abbrev pub invariant-loop-turn : goal.invariant-loop-turn
invariant-loop-turn l = l.set + count_by not (marks l.bytes (8 * l.first) (2048 * l.turn)) ≡ 2048 * l.turn
