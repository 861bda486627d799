-- The values that are folded: those of valid slots, and one that stands for each null. Only private functions cite
-- this.
use Rattle.std.specs.Prelude.{Bool, List, map, unwrap_or}
use Rattle.std.specs.List.{zip}
use Rattle.arrow_column.specs.Column.{ColumnWith, slots_of}
use Rattle.arrow_memory.specs.Rows.{slot}
use Rattle.compute_base.specs.Slots.{stored_of}

-- each stored value whose mark is set, and `null` for the others
abbrev pub values_or : {S : Type 0} → S → List S → List Bool → List S
values_or null values marks = map (λ row. unwrap_or (slot row) null) (zip values marks)

-- the value of each valid slot, and `null` for the others
abbrev pub slot_values : {A S : Type 0} → S → ColumnWith A S → List S
slot_values null column = stored_of null (slots_of column)
