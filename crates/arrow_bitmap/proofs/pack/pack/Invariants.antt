use Rattle.std.proofs.Common.{◌≡◌, ℕ, ◌*◌, ◌<◌, ◌≤◌, false, get_or, length, vec_len}
use Rattle.std.specs.Int.{div_ceil}
use Rattle.std.specs.Vec.{vec_capacity}
use Rattle.arrow_bitmap.specs.Marks.{mark_at}
use Rattle.arrow_bitmap.proofs.pack.pack.Given as goal

abbrev pub invariant-loop-index : goal.invariant-loop-index
invariant-loop-index l = record {
  len : vec_len l.bytes ≡ l.index;
  room : div_ceil (length l.values) 8 ≤ vec_capacity l.bytes;
  packed : (k : ℕ) → k < 8 * l.index → mark_at l.bytes.items k ≡ get_or l.values k false;
}
