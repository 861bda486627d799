use Rattle.std.proofs.Common.{◌≡◌, ◌≤◌, length, map, pos, take, vec_len}
use Rattle.std.specs.Vec.{vec_capacity}
use Rattle.arrow_column.specs.Column.{stored_values}
use Rattle.compute_select.proofs.length.item_lengths.Given as goal

abbrev pub invariant-loop-i : goal.invariant-loop-i
invariant-loop-i g l = record {
  so_far : map g.O.Offset.number l.lengths.items ≡ map (λ item. pos (length item)) (take l.i (stored_values l.array));
  room : length l.array.rows ≤ vec_capacity l.lengths;
  count : vec_len l.lengths ≡ l.i;
}
