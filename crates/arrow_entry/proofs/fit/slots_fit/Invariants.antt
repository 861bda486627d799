use Rattle.std.proofs.Common.{◌≡◌, length, map}
use Rattle.std.specs.List.{list_all}
use Rattle.arrow_model.specs.Item.{slot_fits, stored_slot}
use Rattle.arrow_model.specs.Kind.{shape}
use Rattle.arrow_entry.proofs.fit.slots_fit.Given as goal

abbrev pub invariant-loop-slot : goal.invariant-loop-slot
invariant-loop-slot g l =
    list_all (slot_fits (shape l.kind).value_kind) (map stored_slot l.rest)
    ≡ list_all (slot_fits (shape l.kind).value_kind) (map stored_slot l.fn.slots)

abbrev pub decreases-loop-slot : goal.decreases-loop-slot
decreases-loop-slot g l = length l.rest
