use Rattle.std.proofs.Common.{◌≡◌, map, take}
use Rattle.arrow_column.specs.Column.{slots_of}
use Rattle.arrow_model.specs.Item.{stored_slot}
use Rattle.arrow_entry.specs.Entry.{value_of}
use Rattle.arrow_commands.proofs.read.all_slots.Given as goal

abbrev pub invariant-loop-i : goal.invariant-loop-i
invariant-loop-i g l = map stored_slot l.slots.items ≡ take l.i (slots_of (value_of l.fn.entry).column)
