use Rattle.std.proofs.Common.{◌≡◌}
use Rattle.arrow_column.specs.Appends.{AppendsSlots}
use Rattle.arrow_column.proofs.growing.GrowingColumn.extend.Given as goal

abbrev pub invariant-loop-slot : goal.invariant-loop-slot
invariant-loop-slot g l =
    AppendsSlots g.V.PushValue.overflows g.V.PushValue.shown g.V.MutableValues.default l.fn.self l.yielded l.self
    × (l.self.data_type ≡ l.fn.self.data_type)
