-- The lengths of items.
use Rattle.std.specs.Prelude.{◌≡◌, ◌+◌, ◌-◌, ℕ, ℤ, List, pos, length, map, option_map, slice_index}
use Rattle.arrow_types.specs.Types.{LogicalType}
use Rattle.arrow_column.specs.Column.{Column, slots_of}
use Rattle.arrow_bytes.specs.Column.{ByteColumn}

-- an array of this type whose slots are the numbers of bytes of an array's slots, null where these are; it holds a mask
-- if the array does
pub record HasLengths {X : Type 0} (t : LogicalType) (number : X → ℤ) (array : ByteColumn) (made : Column X) : Type 0
  where
    pub data_type : made.data_type ≡ t
    pub slots : map (option_map number) (slots_of made) ≡ map (option_map (λ item. pos (length item))) (slots_of array)
    pub held : made.held ≡ array.held

-- how far the offset at an index is from the next
abbrev pub length_at : List ℕ → ℕ → ℕ
length_at offsets i = slice_index offsets (i + 1) - slice_index offsets i
