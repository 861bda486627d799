use Rattle.std.proofs.Common.{◌≡◌, ◌+◌, length, take}
use Rattle.std.specs.Vec.{vec_capacity}
use Rattle.compute_base.specs.Slots.{stored_of, valid_of}
use Rattle.compute_base.proofs.WordLemmas.{HoldsFirst}
use Rattle.compute_base.proofs.slots.push_slots.Given as goal

abbrev pub invariant-loop-i : goal.invariant-loop-i
invariant-loop-i g l =
    let slots = g.S.SlotSource.slots l.source in record {
      so_far : l.values.items ≡ take (l.place + l.i) (stored_of g.T.NativeType.zero slots);
      marks : HoldsFirst l.word (valid_of slots) l.place l.i;
      len : length l.values.items ≡ l.place + l.i;
      room : vec_capacity l.values ≡ vec_capacity l.initial.values;
    }
