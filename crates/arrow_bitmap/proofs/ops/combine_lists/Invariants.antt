use Rattle.std.proofs.Common.{◌≡◌, ◌+◌, ◌*◌, ◌≤◌, [], count_by, length, not, vec_len}
use Rattle.std.specs.Int.{div_ceil}
use Rattle.std.specs.Vec.{vec_capacity}
use Rattle.arrow_bitmap.specs.Marks.{marks}
use Rattle.arrow_bitmap.specs.MarkWrites.{AppendsCombined}
use Rattle.arrow_bitmap.proofs.ops.combine_lists.Given as goal

abbrev pub invariant-loop-turn : goal.invariant-loop-turn
invariant-loop-turn g l = record {
  room : div_ceil (length l.first) 8 ≤ vec_capacity l.bytes;
  appended : AppendsCombined g.O.MarkOp.op l.first l.second 0 (2048 * l.turn) [] l.bytes.items;
  long : vec_len l.bytes ≡ 256 * l.turn;
  counted : l.set + count_by not (marks l.bytes.items 0 (2048 * l.turn)) ≡ 2048 * l.turn;
}
