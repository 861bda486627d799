use Rattle.std.proofs.Common.{◌≡◌, ◌+◌, ◌*◌, ◌/◌, ◌≤◌, length, take, vec_len}
use Rattle.std.specs.Vec.{vec_capacity}
use Rattle.compute_base.specs.Slots.{stored_of, valid_of}
use Rattle.compute_base.specs.Words.{HasMarks}
use Rattle.compute_base.proofs.slots.collect_slots.Given as goal

abbrev pub invariant-loop-i : goal.invariant-loop-i
invariant-loop-i g l =
    let slots = g.S.SlotSource.slots l.source in record {
      so_far : l.values.items ≡ take (64 * l.i) (stored_of g.T.NativeType.zero slots);
      written : HasMarks (valid_of slots) l.bytes.items (64 * l.i);
      len : vec_len l.bytes ≡ 8 * (length slots / 64 + 1);
      room : length slots ≤ vec_capacity l.values;
    }
