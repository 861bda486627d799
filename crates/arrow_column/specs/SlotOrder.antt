-- The slots of a column, one after the other.
use Rattle.std.specs.Prelude.{ℕ, List, Option, take}
use Rattle.arrow_column.specs.Column.{ColumnWith, slots_of}

-- the slots before index i
abbrev pub first_slots : {A S : Type 0} → ColumnWith A S → ℕ → List (Option S)
first_slots column i = take i (slots_of column)
