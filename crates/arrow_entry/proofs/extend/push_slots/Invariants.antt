use Rattle.std.proofs.Common.{◌≡◌, IsTrue, Option, length, map}
use Rattle.std.specs.List.{list_all}
use Rattle.arrow_model.specs.Answer.{Answer}
use Rattle.arrow_model.specs.Value.{Value, types}
use Rattle.arrow_model.specs.Item.{slot_fits, stored_slot}
use Rattle.arrow_model.specs.Step.{Extends}
use Rattle.arrow_entry.specs.Entry.{value_of}
use Rattle.arrow_entry.proofs.extend.push_slots.Given as goal

abbrev pub invariant-loop-slot : goal.invariant-loop-slot
invariant-loop-slot g l =
    ((value_of l.entry).shape ≡ (value_of l.fn.entry).shape)
    × IsTrue (list_all (slot_fits (value_of l.entry).shape.value_kind) (map stored_slot l.rest))
    × ((reply : Answer g.row.T.Denot) (new : Option (Value g.row.T.Denot))
    → Extends (types g.T.NativeType.zero g.T.NativeType.PRIMITIVE g.O.Offset.most g.O.Offset.IS_LARGE)
    (value_of l.entry) (map stored_slot l.rest) reply new
    → Extends (types g.T.NativeType.zero g.T.NativeType.PRIMITIVE g.O.Offset.most g.O.Offset.IS_LARGE)
    (value_of l.fn.entry) (map stored_slot l.fn.slots) reply new)

abbrev pub decreases-loop-slot : goal.decreases-loop-slot
decreases-loop-slot g l = length l.rest
