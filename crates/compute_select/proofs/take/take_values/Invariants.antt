use Rattle.std.proofs.Common.{◌≡◌, ◌≤◌, length, take, vec_len}
use Rattle.std.specs.Vec.{vec_capacity}
use Rattle.compute_select.specs.Selects.{values_at_keys}
use Rattle.compute_select.proofs.take.take_values.Given as goal

abbrev pub invariant-loop-key : goal.invariant-loop-key
invariant-loop-key g l = record {
  so_far : l.taken.items
      ≡ values_at_keys g.K.IndexKey.number g.T.NativeType.zero l.values (take l.key-index l.keys);
  len : vec_len l.taken ≡ l.key-index;
  room : length l.keys ≤ vec_capacity l.taken;
}
