-- Columns whose slots store bytes.
use Rattle.std.specs.Prelude.{ℕ, Bool, List, [], length, Option, None}
use Rattle.std.specs.List.{concat}
use Rattle.arrow_types.specs.Types.{LogicalType}
use Rattle.arrow_column.specs.Column.{ColumnWith, column_with, stored_values}
use Rattle.arrow_check.specs.Pieces.{bytes_of, items_of, offsets_of}
use Rattle.arrow_bytes.specs.Pieces.{Around, around_of, lead_only, nothing_around, overflows_by}

-- a column of bytes
abbrev pub ByteColumn : Type 0
ByteColumn = ColumnWith Around (List ℕ)

-- the column of a type, offsets, bytes and a mask
abbrev pub byte_column : LogicalType → List ℕ → List ℕ → Option (List Bool) → ByteColumn
byte_column t offsets bytes mask = column_with t (around_of offsets bytes) (items_of offsets bytes) mask

-- a column of this type with no slot, no byte and no mask
abbrev pub empty_bytes : LogicalType → ByteColumn
empty_bytes t = column_with t nothing_around [] None

-- the offsets that a column's slots have
abbrev pub offsets_held : ByteColumn → List ℕ
offsets_held column = offsets_of (length column.around.lead) (stored_values column)

-- all bytes of a column, those around its slots too
abbrev pub bytes_held : ByteColumn → List ℕ
bytes_held column = bytes_of column.around.lead (stored_values column) column.around.tail

-- a column without the bytes after its slots
abbrev pub column_without_tail : ByteColumn → ByteColumn
column_without_tail column = record column { around = lead_only column.around }

-- whether the end of an item would be above the greatest offset; shown are the item's bytes
abbrev pub item_overflows : {X : Type 0} → (X → List ℕ) → ℕ → Around → List (List ℕ) → X → Bool
item_overflows shown most around items item = overflows_by most around items (length (shown item))

-- whether the end of another column's slots would be above the greatest offset
abbrev pub joins_overflow : ℕ → ByteColumn → ByteColumn → Bool
joins_overflow most column other = overflows_by most column.around (stored_values column)
    (length (concat (stored_values other)))
