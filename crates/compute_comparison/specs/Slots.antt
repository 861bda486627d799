-- Arrays of booleans that have no null or are made with one slot more, beside what arrays are that kernels make slot by
-- slot.
use Rattle.std.specs.Prelude.{◌≡◌, ◌&&◌, ◌||◌, Bool, List, Option, None, is_none, length, map}
use Rattle.arrow_column.specs.Column.{Column, slots_of, unmasked}
use Rattle.arrow_boolean.specs.Fits.{boolean_type}
-- the words of every kernel that works slot by slot, which callers cite here
pub use Rattle.compute_base.specs.Slots.{CombinesSlots, FitEachOther, MapsSlots, both_masks, combine_valid, pairwise}

-- the array of these booleans, of which none is null, without a mask
abbrev pub booleans : List Bool → Column Bool
booleans values = unmasked boolean_type tt values

-- an array of booleans whose slots are each made of the slot at its place and of one slot more, the same for all; it
-- holds a mask if that one is null, or if the array holds one and a null beside it makes a null
pub record CombinesWithSlot (table : Option Bool → Option Bool → Option Bool) (array : Column Bool)
    (scalar : Option Bool) (made : Column Bool) : Type 0 where
  pub data_type : made.data_type ≡ boolean_type
  pub count : length made.rows ≡ length array.rows
  pub slots : slots_of made ≡ map (λ slot. table slot scalar) (slots_of array)
  pub held : made.held ≡ (is_none scalar || (array.held && is_none (table None scalar)))
