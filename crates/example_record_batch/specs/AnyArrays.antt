-- What contracts see of an array of any kind.
use Rattle.std.specs.Prelude.{ℕ, ℤ, ◌≤◌, ◌-◌, Bool, not, List, length, count_by, map, Option, slice_get}
use Rattle.example_record_batch.specs.declared.any.AnyArray.{AnyArray}
use Rattle.example_record_batch.specs.declared.any.AnyArray.TheVariants.{Int64, Boolean, Binary, Utf8}
use Rattle.dethrugn.specs.Types.{LogicalType}
use Rattle.dethrugn.specs.PhysicalType.{PhysicalType}
use Rattle.dethrugn.specs.PhysicalType.TheVariants as physical
use Rattle.dethrugn.specs.PrimitiveType.TheVariants as primitive
use Rattle.dethrugn.specs.Column.{Column, cut, cut_with, marks_of, slots_of}
use Rattle.dethrugn.specs.Around.{around_cut, nothing_around}
use Rattle.dethrugn.specs.Selection.{filtered}

-- what a slot shows: a value of the array's kind, or a null
pub data Cell : Type 0 where
  number : Option ℤ → Cell
  truth : Option Bool → Cell
  bytes : Option (List ℕ) → Cell
  text : Option (List ℕ) → Cell

-- the cells of an array: what each slot shows
abbrev pub cells_of : AnyArray → List Cell
cells_of (Int64 column) = map number (slots_of column)
cells_of (Boolean column) = map truth (slots_of column)
cells_of (Binary column) = map bytes (slots_of column)
cells_of (Utf8 column) = map text (slots_of column)

-- the cell at an index, or none past the end
abbrev pub cell_at : AnyArray → ℕ → Option Cell
cell_at array i = slice_get (cells_of array) i

-- the number of slots
abbrev pub slot_count : AnyArray → ℕ
slot_count (Int64 column) = length column.rows
slot_count (Boolean column) = length column.rows
slot_count (Binary column) = length column.rows
slot_count (Utf8 column) = length column.rows

-- the mark of each slot: true where it is valid
abbrev pub validity_of : AnyArray → List Bool
validity_of (Int64 column) = marks_of column
validity_of (Boolean column) = marks_of column
validity_of (Binary column) = marks_of column
validity_of (Utf8 column) = marks_of column

-- the number of null slots
abbrev pub nulls_of : AnyArray → ℕ
nulls_of array = count_by not (validity_of array)

-- the data type
abbrev pub array_type : AnyArray → LogicalType
array_type (Int64 column) = column.data_type
array_type (Boolean column) = column.data_type
array_type (Binary column) = column.data_type
array_type (Utf8 column) = column.data_type

-- the kind: how the values lie in memory
abbrev pub array_kind : AnyArray → PhysicalType
array_kind (Int64 column) = physical.Primitive primitive.Int64
array_kind (Boolean column) = physical.Boolean
array_kind (Binary column) = physical.Binary
array_kind (Utf8 column) = physical.Utf8

-- the n slots that begin at index a
abbrev pub any_cut : AnyArray → ℕ → ℕ → AnyArray
any_cut (Int64 column) a n = Int64 (cut column a n)
any_cut (Boolean column) a n = Boolean (cut column a n)
any_cut (Binary column) a n = Binary (cut_with around_cut column a n)
any_cut (Utf8 column) a n = Utf8 (cut_with around_cut column a n)

-- the array has n slots that begin at index a
abbrev pub FitsAnyCut : AnyArray → ℕ → ℕ → Type 0
FitsAnyCut array a n = (a ≤ slot_count array) × (n ≤ slot_count array - a)

-- the slots where a filter is valid and true
abbrev pub any_filtered : AnyArray → Column Bool → AnyArray
any_filtered (Int64 column) filter = Int64 (filtered tt column filter)
any_filtered (Boolean column) filter = Boolean (filtered tt column filter)
any_filtered (Binary column) filter = Binary (filtered nothing_around column filter)
any_filtered (Utf8 column) filter = Utf8 (filtered nothing_around column filter)
