use Rattle.std.proofs.Common.{◌≡◌, Some, map, take}
use Rattle.arrow_column.specs.Appends.{AppendsSlots}
use Rattle.arrow_column.proofs.growing.GrowingColumn.extend_from_values.Given as goal

abbrev pub invariant-loop-value : goal.invariant-loop-value
invariant-loop-value g l =
    AppendsSlots g.V.PushValue.overflows g.V.PushValue.shown g.V.MutableValues.default l.fn.self (map Some (take l.value-index l.values)) l.self
    × (l.self.data_type ≡ l.fn.self.data_type)
