-- What the slots of a column show at an index, by its stored values and marks.
use Rattle.std.specs.Prelude.{◌≡◌, ℕ, ◌-◌, Bool, length, Option, Some, slice_get}
use Rattle.arrow_column.specs.Column.{ColumnWith, last_slot, marks_of, slots_of, stored_values}

module _ {A S : Type 0} where
  -- the stored value at index i, if in bounds
  abbrev pub nth_value : ColumnWith A S → ℕ → Option S
  nth_value column i = slice_get (stored_values column) i

  -- the mark at index i, if in bounds
  abbrev pub nth_mark : ColumnWith A S → ℕ → Option Bool
  nth_mark column i = slice_get (marks_of column) i

  -- the slot at index i, if in bounds
  abbrev pub nth_slot : ColumnWith A S → ℕ → Option (Option S)
  nth_slot column i = slice_get (slots_of column) i

  -- the stored value at index i is this
  abbrev pub StoresAt : ColumnWith A S → ℕ → S → Type 0
  StoresAt column i value = nth_value column i ≡ Some value

  -- the slot at index i is this
  abbrev pub ShowsAt : ColumnWith A S → ℕ → Option S → Type 0
  ShowsAt column i shown = nth_slot column i ≡ Some shown

  -- the slot at index i is its stored value
  abbrev pub ShowsStored : ColumnWith A S → ℕ → Type 0
  ShowsStored column i = (value : S) → StoresAt column i value → ShowsAt column i (Some value)

  -- the last slot is its stored value
  abbrev pub LastShowsStored : ColumnWith A S → Type 0
  LastShowsStored column = (value : S) → StoresAt column (length column.rows - 1) value
      → last_slot column ≡ Some value
