use Rattle.std.proofs.Common.{◌≡◌, ◌≤◌, length, take, vec_len}
use Rattle.std.specs.Vec.{vec_capacity}
use Rattle.arrow_bytes.specs.Selection.{at_keys}
use Rattle.arrow_kernels.proofs.take_parts.take_values.Given as goal

abbrev pub invariant-loop-key : goal.invariant-loop-key
invariant-loop-key g l = record {
  so_far : l.picked.items ≡ at_keys g.K.IndexKey.number (take l.key-index l.keys) l.values;
  len : vec_len l.picked ≡ l.key-index;
  room : length l.keys ≤ vec_capacity l.picked;
}
