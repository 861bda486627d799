-- What contracts see of growing columns, and of the arrays that they become.
use Rattle.std.specs.Prelude.{◌≡◌, ℕ, ◌+◌, ◌≤◌, ◌^◌, ⊤, List, [], ◌∷◌, ◌++◌, Option, Some, None, length, map, unwrap_or}
use Rattle.std.specs.List.{concat}
use Rattle.dethrugn.specs.Column.{slots_of, stored_values}
use Rattle.dethrugn.specs.ByteColumn.{ByteColumn}
use Rattle.example_record_batch.specs.AnyArrays.{Cell, cells_of, number, text, truth}
use Rattle.example_record_batch.specs.declared.any.AnyArray.{AnyArray}
use Rattle.example_record_batch.specs.declared.any.AnyArray.TheVariants as array
use Rattle.example_csv.specs.declared.kind.Kind.{Kind}
use Rattle.example_csv.specs.declared.kind.Kind.TheVariants as kind
use Rattle.dethrugn.specs.Error.TheVariants as arrow
use Rattle.example_csv.specs.declared.error.Error.{Error}
use Rattle.example_csv.specs.declared.error.Error.TheVariants as error
use Rattle.example_csv.specs.declared.builder.Builder.{Builder}
use Rattle.example_csv.specs.declared.builder.Builder.TheVariants as builder
use Rattle.example_csv.specs.Fields.{found_kind, field_cell}

-- the type that a column declares, if it does
abbrev pub declared_of : Builder → Option Kind
declared_of (builder.Int64 column) = Some kind.Int64
declared_of (builder.Boolean column) = Some kind.Boolean
declared_of (builder.Utf8 column) = Some kind.Utf8
declared_of (builder.Undeclared column) = None

-- the type of the slots of a growing column: text if none is declared
abbrev pub built_kind : Builder → Kind
built_kind column = unwrap_or (declared_of column) kind.Utf8

-- the cells of a growing column
abbrev pub built_cells : Builder → List Cell
built_cells (builder.Int64 column) = map number (slots_of column)
built_cells (builder.Boolean column) = map truth (slots_of column)
built_cells (builder.Utf8 column) = map text (slots_of column)
built_cells (builder.Undeclared column) = map text (slots_of column)

-- the number of bytes of a column of text
abbrev pub byte_count : ByteColumn → ℕ
byte_count column = length column.around.lead + length (concat (stored_values column))

-- the number of bytes of the text of a growing column
abbrev pub text_length : Builder → ℕ
text_length (builder.Int64 column) = 0
text_length (builder.Boolean column) = 0
text_length (builder.Utf8 column) = byte_count column
text_length (builder.Undeclared column) = byte_count column

-- a column grew by a field
pub record GrowsBy (old new : Builder) (field : List ℕ) : Type 0 where
  pub declared : declared_of new ≡ declared_of old
  pub cells : map Some (built_cells new) ≡ map Some (built_cells old) ++ field_cell (built_kind old) field ∷ []
  pub bytes : text_length new ≤ text_length old + length field

-- the type of an array, if it is one of a table's
abbrev pub table_kind : AnyArray → Option Kind
table_kind (array.Int64 column) = Some kind.Int64
table_kind (array.Boolean column) = Some kind.Boolean
table_kind (array.Utf8 column) = Some kind.Utf8
table_kind (array.Binary column) = None

-- the array of a type whose cells are what these fields read as
pub record IsArrayOf (kind : Kind) (fields : List (List ℕ)) (array : AnyArray) : Type 0 where
  pub kind_is : table_kind array ≡ Some kind
  pub cells : map Some (cells_of array) ≡ map (field_cell kind) fields

-- the type of a column: that which is declared, or else that which is found
abbrev pub column_kind : Option Kind → List (List ℕ) → Kind
column_kind declared fields = unwrap_or declared (found_kind fields)

-- an allocation failed
abbrev pub IsOutOfMemory : Error → Type 0
IsOutOfMemory error.OutOfMemory = ⊤
IsOutOfMemory (error.Arrow e) = e ≡ arrow.OutOfMemory
IsOutOfMemory _ = ⊥

-- why a field is not appended: it is not of the declared type, the text is too long, or an allocation failed
abbrev pub CannotPush : Builder → List ℕ → ℕ → Error → Type 0
CannotPush old field place (error.Field byte column wanted) =
    (column ≡ place) × (declared_of old ≡ Some wanted) × (field_cell wanted field ≡ None)
CannotPush old field place (error.Arrow arrow.Overflow) = 2 ^ 31 ≤ text_length old + length field
CannotPush old field place e = IsOutOfMemory e

-- the cells of a growing column are what these fields read as
abbrev pub HoldsFields : Builder → List (List ℕ) → Type 0
HoldsFields column fields = map Some (built_cells column) ≡ map (field_cell (built_kind column)) fields
