use Rattle.std.proofs.Common.{◌≡◌, ◌++◌, drop, map}
use Rattle.arrow_entry.specs.Slot.{StoresAs}
use Rattle.arrow_model.specs.Change.{turns_of}
use Rattle.arrow_model.specs.Item.{stored_slot}
use Rattle.arrow_entry.proofs.turns.all_turns.Given as goal

abbrev pub invariant-loop-i : goal.invariant-loop-i
invariant-loop-i g l =
    g.I.TurnsIterator.can_turn l.items
    × StoresAs g.I.Item.SlotItem.stored g.I.TurnsIterator.seen (λ stored. map stored_slot l.slots.items
    ++ turns_of (drop l.i l.fn.turns) (map stored (g.I.TurnsIterator.left l.items))
    ≡ turns_of l.fn.turns (map stored (g.I.TurnsIterator.left l.fn.items)))
