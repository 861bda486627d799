-- What contracts see of a batch: its columns in order, each with its name, and the number of rows.
use Rattle.std.specs.Prelude.{◌≡◌, ℕ, Bool, List, map, All, string_bytes, Option, option_map, find, codes, count_by}
use Rattle.std.specs.List.{range_with_len}
use Rattle.std.specs.Str.{bytes_eq}
use Rattle.dethrugn.specs.Column.{Column}
use Rattle.dethrugn.specs.Types.{Refusal, out_of_spec}
use Rattle.dethrugn.specs.Selection.{asked, where_set}
use Rattle.example_record_batch.specs.declared.any.AnyArray.{AnyArray}
use Rattle.example_record_batch.specs.declared.batch.Field.{Field}
use Rattle.example_record_batch.specs.AnyArrays.{Cell, any_cut, any_filtered, cell_at, slot_count}

-- a column with its name
pub record Named : Type 0 where
  pub name : List ℕ
  pub array : AnyArray

-- a batch
pub record Batch : Type 0 where
  pub rows : ℕ
  pub columns : List Named

abbrev pub named : Field → Named
named field = record { name = string_bytes field.name; array = field.array }

-- the batch of some columns
abbrev pub batch_of : List Field → ℕ → Batch
batch_of fields rows = record { rows = rows; columns = map named fields }

-- every column has this number of rows
abbrev pub HaveRows : List Field → ℕ → Type 0
HaveRows fields rows = All (λ field. slot_count field.array ≡ rows) fields

-- every column of a batch has the number of rows of the batch
abbrev pub IsBatch : Batch → Type 0
IsBatch batch = All (λ column. slot_count column.array ≡ batch.rows) batch.columns

-- a row: the cells at index i of every column
abbrev pub row_at : Batch → ℕ → List (Option Cell)
row_at batch i = map (λ column. cell_at column.array i) batch.columns

-- the rows in order
abbrev pub batch_rows : Batch → List (List (Option Cell))
batch_rows batch = map (row_at batch) (range_with_len 0 batch.rows)

-- the n slots of a column that begin at index a
abbrev pub named_cut : ℕ → ℕ → Named → Named
named_cut a n column = record column { array = any_cut column.array a n }

-- the n rows that begin at index a
abbrev pub batch_cut : Batch → ℕ → ℕ → Batch
batch_cut batch a n = record { rows = n; columns = map (named_cut a n) batch.columns }

-- the number of slots where a filter is valid and true
abbrev pub asked_count : Column Bool → ℕ
asked_count filter = count_by (λ mark. mark) (asked filter)

-- the slots of a column where a filter is valid and true
abbrev pub named_filtered : Column Bool → Named → Named
named_filtered filter column = record column { array = any_filtered column.array filter }

-- the rows where a filter is valid and true
abbrev pub batch_filtered : Batch → Column Bool → Batch
batch_filtered batch filter = record {
  rows = asked_count filter;
  columns = map
      (named_filtered filter) batch.columns;
}

-- the first column of a name
abbrev pub column_of : Batch → List ℕ → Option AnyArray
column_of batch name = option_map (λ column. column.array) (find (λ column. bytes_eq column.name name) batch.columns)

-- the refusal of columns of another length
abbrev pub unequal_columns : Refusal
unequal_columns = out_of_spec (codes "all columns of a batch must have the same length")

-- a filter leaves the rows of a batch at which it is valid and true
abbrev pub LeavesAsked : Batch → Column Bool → Type 0
LeavesAsked batch filter = batch_rows (batch_filtered batch filter) ≡ where_set (asked filter) (batch_rows batch)
