-- What kernels get of entries: the array, the filter, and columns over booleans or bytes alone.
use Rattle.std.specs.Prelude.{Bool, false, ◌&&◌, map, Option, Some, None, option_and_then, if◌then◌else◌}
use Rattle.arrow_column.specs.Column.{Column, ColumnWith}
use Rattle.arrow_bytes.specs.Pieces.{Around}
use Rattle.arrow_bytes.specs.Column.{ByteColumn}
use Rattle.arrow_model.specs.Kind.{is_frozen, is_boolean}
use Rattle.arrow_model.specs.Item.{Stored, bit, stored_bytes}
use Rattle.arrow_model.specs.Value.{Value}

-- the boolean that an item is
abbrev pub bit_in : {T : Type 0} → Stored T → Bool
bit_in (bit b) = b
bit_in _ = false

module _ {T : Type 0} where
  -- the same column over booleans alone
  unfoldable pub bits_column : ColumnWith Around (Stored T) → Column Bool
  bits_column column = record {
    data_type = column.data_type;
    around = tt;
    rows = map (λ row. (bit_in row.0, row.1)) column.rows;
    held = column.held;
  }

  -- the same column over the bytes that its items take up
  unfoldable pub bytes_column : ColumnWith Around (Stored T) → ByteColumn
  bytes_column column = record {
    data_type = column.data_type;
    around = column.around;
    rows = map (λ row. (stored_bytes row.0, row.1)) column.rows;
    held = column.held;
  }

  -- an array, where what stands in an entry is one
  abbrev pub array_in : Option (Value T) → Option (Value T)
  array_in = option_and_then (λ (v : Value T). if is_frozen v.shape then Some v else None)

  -- a filter, where what stands in an entry is a boolean array
  abbrev pub filter_in : Option (Value T) → Option (Column Bool)
  filter_in = option_and_then (λ (v : Value T). if is_frozen v.shape
      && is_boolean v.shape then Some (bits_column v.column) else None)
