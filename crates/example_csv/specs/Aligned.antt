-- A table as aligned columns.
use Rattle.std.specs.Prelude.{ℕ, ◌-◌, max, Bool, true, false, ⊤, if◌then◌else◌, List, [], ◌∷◌, ◌++◌, codes, fold, map}
use Rattle.std.specs.Prelude.{chars, encode_utf8_all, replicate}
use Rattle.std.specs.Char.{is_control}
use Rattle.std.specs.List.{flat_map, range_with_len}
use Rattle.std.specs.Str.{trim_end}
use Rattle.unicode_width.specs.Width.{str_width}
use Rattle.example_record_batch.specs.declared.any.AnyArray.{AnyArray}
use Rattle.example_record_batch.specs.declared.any.AnyArray.TheVariants.{Int64}
use Rattle.example_record_batch.specs.AnyArrays.{cell_at}
use Rattle.example_record_batch.specs.Batches.{Batch, Named}
use Rattle.example_csv.specs.declared.error.Error.{Error}
use Rattle.example_csv.specs.declared.error.Error.TheVariants.{Io, OutOfMemory}
use Rattle.example_csv.specs.Text.{cell_text}

-- a text as a table shows it: with a space for each control character
abbrev pub shown_char : ℕ → ℕ
shown_char c = if is_control c then 32 else c

abbrev pub shown : List ℕ → List ℕ
shown text = encode_utf8_all (map shown_char (chars text))

-- how many columns of a terminal it takes
abbrev pub shown_width : List ℕ → ℕ
shown_width text = str_width false (chars (shown text))

-- the texts of a column: its name, and its cells
abbrev pub column_texts : ℕ → Named → List (List ℕ)
column_texts rows column = column.name ∷ map (λ i. cell_text (cell_at column.array i)) (range_with_len 0 rows)

-- the width of the widest of them
abbrev pub column_width : ℕ → Named → ℕ
column_width rows column = fold (λ width text. max width (shown_width text)) 0 (column_texts rows column)

abbrev pub column_widths : Batch → List ℕ
column_widths batch = map (column_width batch.rows) batch.columns

-- numbers are aligned to the right
abbrev pub is_number : AnyArray → Bool
is_number (Int64 column) = true
is_number _ = false

-- a text padded to a width with spaces, on the left or on the right
abbrev pub padded : Bool → ℕ → List ℕ → List ℕ
padded on_left width text =
    let spaces = replicate (width - shown_width text) 32 in
    if on_left then spaces ++ shown text else shown text ++ spaces

-- a line of cells, each followed by two spaces, without the white space at its end
abbrev pub cells_line : List (List ℕ) → List ℕ
cells_line cells = trim_end (flat_map (λ cell. cell ++ codes "  ") cells) ++ codes "\n"

-- the cell that shows a text of a column
abbrev pub cell_of : ℕ → (Named → List ℕ) → Named → List ℕ
cell_of rows text column = padded (is_number column.array) (column_width rows column) (text column)

-- the line that shows a text of each column
abbrev pub aligned_line : (Named → List ℕ) → Batch → List ℕ
aligned_line text batch = cells_line (map (cell_of batch.rows text) batch.columns)

abbrev pub names_line : Batch → List ℕ
names_line batch = aligned_line (λ column. column.name) batch

abbrev pub dashes_line : List ℕ → List ℕ
dashes_line widths = cells_line (map (λ width. replicate width 45) widths)

abbrev pub row_line : Batch → ℕ → List ℕ
row_line batch i = aligned_line (λ column. cell_text (cell_at column.array i)) batch

-- a table as aligned columns: the names, a line of dashes, and each row
abbrev pub aligned_text : Batch → List ℕ
aligned_text batch = (names_line batch ++ dashes_line (column_widths batch)) ++ flat_map (row_line batch)
    (range_with_len 0 batch.rows)

-- an error of writing aligned columns
abbrev pub CannotWrite : Error → Type 0
CannotWrite (Io e) = ⊤
CannotWrite OutOfMemory = ⊤
CannotWrite _ = ⊥
