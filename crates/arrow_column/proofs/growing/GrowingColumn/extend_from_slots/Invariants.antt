use Rattle.std.proofs.Common.{◌≡◌, take}
use Rattle.arrow_column.specs.Appends.{AppendsSlots}
use Rattle.arrow_column.proofs.growing.GrowingColumn.extend_from_slots.Given as goal

abbrev pub invariant-loop-slot : goal.invariant-loop-slot
invariant-loop-slot g l =
    AppendsSlots g.V.PushValue.overflows g.V.PushValue.shown g.V.MutableValues.default l.fn.self (take l.slot-index l.slots) l.self
    × (l.self.data_type ≡ l.fn.self.data_type)
