-- Cells as text, and a table as CSV.
use Rattle.std.specs.Prelude.{ℕ, Bool, true, false, ⊤, List, [], ◌∷◌, codes, map, Option, Some, None}
use Rattle.std.specs.Fmt.{signed_decimal}
use Rattle.std.specs.List.{flat_map, range_with_len}
use Rattle.csv.specs.Writing.{default_writer, row_text}
use Rattle.hex.specs.Hex.{encode_lower}
use Rattle.example_record_batch.specs.AnyArrays.{Cell, bytes, number, text, truth}
use Rattle.example_record_batch.specs.Batches.{Batch, row_at}
use Rattle.example_csv.specs.declared.error.Error.{Error}
use Rattle.example_csv.specs.declared.error.Error.TheVariants.{Csv, OutOfMemory}

abbrev pub truth_text : Bool → List ℕ
truth_text true = codes "true"
truth_text false = codes "false"

-- the text of a cell: none for a null
abbrev pub cell_text : Option Cell → List ℕ
cell_text (Some (number (Some z))) = signed_decimal z
cell_text (Some (truth (Some b))) = truth_text b
cell_text (Some (bytes (Some bs))) = encode_lower bs
cell_text (Some (text (Some cs))) = cs
cell_text _ = []

-- the names of the columns
abbrev pub names_of : Batch → List (List ℕ)
names_of batch = map (λ column. column.name) batch.columns

-- the texts of a row
abbrev pub record_at : Batch → ℕ → List (List ℕ)
record_at batch i = map cell_text (row_at batch i)

-- the records of a table: the names of its columns, and then each row
abbrev pub records_of : Batch → List (List (List ℕ))
records_of batch = names_of batch ∷ map (record_at batch) (range_with_len 0 batch.rows)

-- a table as CSV
abbrev pub csv_text : Batch → List ℕ
csv_text batch = flat_map (row_text default_writer) (records_of batch)

-- an error of writing CSV
abbrev pub CannotWriteCsv : Error → Type 0
CannotWriteCsv (Csv e) = ⊤
CannotWriteCsv OutOfMemory = ⊤
CannotWriteCsv _ = ⊥
