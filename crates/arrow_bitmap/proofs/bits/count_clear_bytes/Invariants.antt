use Rattle.std.proofs.Common.{◌≡◌, ◌-◌, ◌*◌, count_by, not}
use Rattle.arrow_bitmap.specs.Marks.{marks}
use Rattle.arrow_bitmap.proofs.bits.count_clear_bytes.Given as goal

abbrev pub invariant-loop-index : goal.invariant-loop-index
invariant-loop-index l = l.clear ≡ count_by not (marks l.bytes (8 * l.first) (8 * (l.index - l.first)))
