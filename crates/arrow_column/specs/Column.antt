-- A column: what contracts see of an array or a builder, without its memory.
use Rattle.std.specs.Prelude.{⊤, ◌≡◌, ◌||◌, ◌&&◌, slice_set, option_map, ℕ, ◌-◌, ◌≤◌, Bool, true, false}
use Rattle.std.specs.Prelude.{replicate, not, List, [], ◌∷◌, ◌++◌, length, map, take, drop, Option, Some, None}
use Rattle.std.specs.Prelude.{option_and_then, is_some, slice_get, codes, if◌then◌else◌, IsTrue}
use Rattle.std.specs.List.{fold, list_all, zip}
use Rattle.arrow_types.specs.Types.{LogicalType, Refusal, out_of_spec}
use Rattle.arrow_types.specs.declared.error.Error.{Error}
use Rattle.arrow_types.specs.declared.error.Error.TheVariants as error
use Rattle.arrow_memory.specs.Rows.{Row, slot, rows_of}

-- the refusal of a mask that has another number of marks than there are values
abbrev pub unfit_mask : Refusal
unfit_mask = out_of_spec (codes "validity mask length must match the number of values")

-- how builders of bytes and text word the refusal of a mask that has another number of marks
abbrev pub unfit_builder_mask : Refusal
unfit_builder_mask = out_of_spec (codes "validity's length must be equal to the number of values")

-- a column whose slots each store an S: its type, what lies around the stored values, its rows in order, and
-- whether a mask is held
pub record ColumnWith (A S : Type 0) : Type 0 where
  pub data_type : LogicalType
  pub around : A
  pub rows : List (Row S)
  pub held : Bool

-- a column with nothing around its stored values (Arrow columnar format, "Fixed-size primitive layout")
abbrev pub Column : Type 0 → Type 0
Column S = ColumnWith ⊤ S

-- the column of the parts that an array or a builder is made of: its type, what is around its stored values, these,
-- and its mask
abbrev pub column_with : {A S : Type 0} → LogicalType → A → List S → Option (List Bool) → ColumnWith A S
column_with t around values mask = record {
  data_type = t;
  around = around;
  rows = rows_of values mask;
  held =
      is_some mask;
}

-- the column of a type, stored values and a mask, with nothing around the stored values
abbrev pub column_of_parts : {S : Type 0} → LogicalType → List S → Option (List Bool) → Column S
column_of_parts t values mask = column_with t tt values mask

-- the column of these values without a mask
abbrev pub unmasked : {A S : Type 0} → LogicalType → A → List S → ColumnWith A S
unmasked t around values = column_with t around values None

-- the stored values, those under nulls too
abbrev pub stored_values : {A S : Type 0} → ColumnWith A S → List S
stored_values column = map (λ row. row.0) column.rows

-- the mark of each slot
abbrev pub marks_of : {A S : Type 0} → ColumnWith A S → List Bool
marks_of column = map (λ row. row.1) column.rows

-- what each slot shows
abbrev pub slots_of : {A S : Type 0} → ColumnWith A S → List (Option S)
slots_of column = map slot column.rows

-- no slot is null
abbrev pub all_valid : {A S : Type 0} → ColumnWith A S → Bool
all_valid column = list_all (λ row. row.1) column.rows

-- the mask: the marks, where one is held
abbrev pub mask_of : {A S : Type 0} → ColumnWith A S → Option (List Bool)
mask_of column = if column.held then Some (marks_of column) else None

-- where no mask is held, every slot is valid
abbrev pub IsColumn : {A S : Type 0} → ColumnWith A S → Type 0
IsColumn column = column.held ≡ false → IsTrue (all_valid column)

-- a column of this type with no slot and no mask
abbrev pub empty_column : {S : Type 0} → LogicalType → Column S
empty_column t = column_of_parts t [] None

-- a column of this type with no slot, but a mask
abbrev pub empty_masked : {S : Type 0} → LogicalType → Column S
empty_masked t = column_of_parts t [] (Some [])

-- the column of n null slots, which store the default
abbrev pub null_column : {A S : Type 0} → LogicalType → A → S → ℕ → ColumnWith A S
null_column t around default n = column_with t around (replicate n default) (Some (replicate n false))

-- there are n rows from index a on
abbrev pub FitsCut : {A S : Type 0} → ColumnWith A S → ℕ → ℕ → Type 0
FitsCut column a n = (a ≤ length column.rows) × (n ≤ length column.rows - a)

-- the n rows from index a on; the type stays, and so does whether a mask is held; what is then around the stored
-- values depends on what was around them, on them, a and n
abbrev pub cut_with : {A S : Type 0} → (A → List S → ℕ → ℕ → A) → ColumnWith A S → ℕ → ℕ → ColumnWith A S
cut_with around column a n = record column {
  around = around column.around (stored_values column) a n;
  rows =
      take n (drop a column.rows);
}

-- the n rows from index a on of a column with nothing around its stored values
abbrev pub cut : {S : Type 0} → Column S → ℕ → ℕ → Column S
cut column a n = record column { rows = take n (drop a column.rows) }

-- one more slot: a null stores the default, and a mask is held from then on
abbrev pub append_slot : {A S : Type 0} → S → ColumnWith A S → Option S → ColumnWith A S
append_slot default column (Some x) = record column { rows = column.rows ++ (x, true) ∷ [] }
append_slot default column None = record column { rows = column.rows ++ (default, false) ∷ []; held = true }

-- what the last slot shows, if there is one and it is not null
abbrev pub last_slot : {A S : Type 0} → ColumnWith A S → Option S
last_slot column = option_and_then slot (slice_get column.rows (length column.rows - 1))

-- all rows but the last
abbrev pub without_last : {A S : Type 0} → ColumnWith A S → ColumnWith A S
without_last column = record column { rows = take (length column.rows - 1) column.rows }

-- without a mask that no slot needs: one is held exactly where a slot is null
abbrev pub without_needless_mask : {A S : Type 0} → ColumnWith A S → ColumnWith A S
without_needless_mask column = record column { held = not (all_valid column) }

-- these slots more, one after the other
abbrev pub append_slots : {A S : Type 0} → S → ColumnWith A S → List (Option S) → ColumnWith A S
append_slots default column slots = fold (append_slot default) column slots

-- these values more, in valid slots
abbrev pub append_values : {A S : Type 0} → ColumnWith A S → List S → ColumnWith A S
append_values column values = record column { rows = column.rows ++ rows_of values None }

-- these values more, in null slots; a mask is held from then on
abbrev pub append_nulls : {A S : Type 0} → ColumnWith A S → List S → ColumnWith A S
append_nulls column values = record column { rows = column.rows ++ map (λ value. (value, false)) values; held = true }

-- one more slot; shown is what is stored of an item
abbrev pub push_slot : {A S X : Type 0} → (X → S) → S → ColumnWith A S → Option X → ColumnWith A S
push_slot shown default column x = append_slot default column (option_map shown x)

-- one more valid slot; shown is what is stored of an item
abbrev pub push_item : {A S X : Type 0} → (X → S) → S → ColumnWith A S → X → ColumnWith A S
push_item shown default column x = append_slot default column (Some (shown x))

-- more valid slots, one after the other; shown is what is stored of an item
abbrev pub push_items : {A S X : Type 0} → (X → S) → S → ColumnWith A S → List X → ColumnWith A S
push_items shown default column xs = append_slots default column (map (λ x. Some (shown x)) xs)

-- the array of these slots, which holds a mask exactly if one is null
abbrev pub array_of_slots : {S : Type 0} → S → LogicalType → List (Option S) → Column S
array_of_slots default t slots = without_needless_mask (append_slots default (empty_masked t) slots)

-- n null slots more, one after the other
abbrev pub push_nulls : {A S : Type 0} → S → ColumnWith A S → ℕ → ColumnWith A S
push_nulls default column n = append_slots default column (replicate n None)

-- a column as it is, but with a mask
abbrev pub masked : {A S : Type 0} → ColumnWith A S → ColumnWith A S
masked column = record column { held = true }

-- the rows of the first column followed by those of another; a mask is held if either held one
abbrev pub joined : {A B S : Type 0} → ColumnWith A S → ColumnWith B S → ColumnWith A S
joined column other = record column { rows = column.rows ++ other.rows; held = column.held || other.held }

-- another slot at index i: a null stores the default, and a mask is held from then on
abbrev pub with_slot : {A S : Type 0} → S → ColumnWith A S → ℕ → Option S → ColumnWith A S
with_slot default column i (Some x) = record column { rows = slice_set column.rows i (x, true) }
with_slot default column i None = record column { rows = slice_set column.rows i (default, false); held = true }

-- another mask, or none, where every slot is valid; the stored values stay
abbrev pub with_mask : {A S : Type 0} → ColumnWith A S → Option (List Bool) → ColumnWith A S
with_mask column mask = record column { rows = rows_of (stored_values column) mask; held = is_some mask }

-- other stored values, as many; the marks stay
abbrev pub with_stored : {A S : Type 0} → ColumnWith A S → List S → ColumnWith A S
with_stored column values = record column { rows = zip values (marks_of column) }

-- the stored values once they were written over; a list of another length is written from the first on, as far as
-- there are values
abbrev pub with_written : {A S : Type 0} → ColumnWith A S → List S → ColumnWith A S
with_written column values =
    with_stored column (take (length column.rows) (values ++ drop (length values) (stored_values column)))

-- another type
abbrev pub with_type : {A S : Type 0} → ColumnWith A S → LogicalType → ColumnWith A S
with_type column t = record column { data_type = t }

-- why a growth was refused: there would be more than can be counted, or else for memory
abbrev pub refused_growth : Bool → Error
refused_growth overflows = if overflows then error.Overflow else error.OutOfMemory

-- whether a column overflows by what is appended: a test of what lies around its stored values, of these and of that
abbrev pub column_overflows : {A S X : Type 0} → (A → List S → X → Bool) → ColumnWith A S → X → Bool
column_overflows overflows column more = overflows column.around (stored_values column) more

-- whether one more slot is more than can be counted; a null never is
abbrev pub slot_overflows : {A S X : Type 0} → (A → List S → X → Bool) → ColumnWith A S → Option X → Bool
slot_overflows overflows column (Some x) = overflows column.around (stored_values column) x
slot_overflows overflows column None = false

-- whether none of these slots, appended one after the other, is more than can be counted
abbrev pub slots_fit : {A S X : Type 0} → (A → List S → X → Bool) → (X → S) → S → ColumnWith A S → List (Option X)
    → Bool
slots_fit overflows shown default column [] = true
slots_fit overflows shown default column (x ∷ xs) = not (slot_overflows overflows column x) && slots_fit overflows
    shown default (append_slot default column (option_map shown x)) xs
