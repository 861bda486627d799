use Rattle.std.proofs.Common.{◌≡◌, ◌+◌, ◌*◌, ◌≤◌, ℕ, length, vec_len}
use Rattle.std.specs.Vec.{vec_capacity}
use Rattle.arrow_bitmap.specs.MarkWrites.{AppendsCombined}
use Rattle.arrow_bitmap.proofs.ops.push_bytes.Given as goal

abbrev pub invariant-loop-i : goal.invariant-loop-i
invariant-loop-i g l = record {
  appended : (n : ℕ) → n ≤ 8 * l.i → n ≤ length l.first
      → AppendsCombined g.O.MarkOp.op l.first l.second 0 n l.fn.bytes.items l.grown.items;
  long : vec_len l.grown ≡ vec_len l.fn.bytes + l.i;
  capacity : vec_capacity l.fn.bytes ≤ vec_capacity l.grown;
}
