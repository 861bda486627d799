-- Rows: stored values and their marks.
use Rattle.std.specs.Prelude.{Bool, true, List, map, Option, Some, None, if◌then◌else◌}
use Rattle.std.specs.List.{zip}
-- which mask fits values, where it has a valid slot, and when stored values agree there
pub use Rattle.arrow_bitmap.specs.Masks.{FitsMask, IsValidAt, AgreeWhere}

-- a row: what a slot stores, and its mark, which is set where the slot is valid
-- (Arrow columnar format, "Validity bitmaps")
abbrev pub Row : Type 0 → Type 0
Row S = S × Bool

-- what a row shows: its stored value where the mark is set, else a null
abbrev pub slot : {S : Type 0} → Row S → Option S
slot row = if row.1 then Some row.0 else None

-- the rows of stored values and a mask, where there is one; without a mask every slot is valid
abbrev pub rows_of : {S : Type 0} → List S → Option (List Bool) → List (Row S)
rows_of values None = map (λ value. (value, true)) values
rows_of values (Some marks) = zip values marks
