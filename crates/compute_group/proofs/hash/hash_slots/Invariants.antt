use Rattle.std.proofs.Common.{◌≡◌, length, map, take}
use Rattle.std.specs.Prelude.{vec_capacity}
use Rattle.arrow_column.specs.Column.{slots_of}
use Rattle.compute_group.specs.Hashes.{hash_slot}
use Rattle.compute_group.proofs.hash.hash_slots.Given as goal

abbrev pub invariant-loop-i : goal.invariant-loop-i
invariant-loop-i g l = record {
  hashes : l.hashes.items ≡ map (hash_slot g.A.HashSlots.input) (take l.i (slots_of (g.A.Array.column l.array)));
  count : length l.hashes.items ≡ l.i;
  room : vec_capacity l.hashes ≡ l.count;
}
