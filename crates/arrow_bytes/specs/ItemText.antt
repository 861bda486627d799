-- The text of bytes, and of what builders of bytes hold.
use Rattle.std.specs.Prelude.{ℕ, List, Option, Some, codes}
use Rattle.std.specs.Fmt.{◌++?◌, debug_list, decimal}
use Rattle.arrow_memory.specs.NumberText.{offsets_text}
use Rattle.arrow_column.specs.Column.{mask_of}
use Rattle.arrow_column.specs.SlotText.{head_text, validity_text}
use Rattle.arrow_bytes.specs.Column.{ByteColumn, bytes_held, offsets_held}

-- bytes as numbers in brackets
abbrev pub bytes_text : List ℕ → Option (List ℕ)
bytes_text bytes = debug_list (λ b. Some (decimal b)) bytes

-- a builder without nulls, as its name and its fields
abbrev pub values_builder_text : List ℕ → ByteColumn → Option (List ℕ)
values_builder_text name column =
    Some (head_text name column.data_type (codes ", offsets: "))
    ++? offsets_text (codes "Offsets") (offsets_held column)
    ++? Some (codes ", values: ") ++? bytes_text (bytes_held column) ++? Some (codes " }")

-- a builder with nulls: the builder of its values, whose name is the second, and its mask
abbrev pub byte_builder_text : List ℕ → List ℕ → ByteColumn → Option (List ℕ)
byte_builder_text name values_name column =
    Some name ++? Some (codes " { values: ") ++? values_builder_text values_name column
    ++? validity_text (mask_of column)
