-- That the tests of lists of byte slots decide whether they are the same.
use Rattle.std.specs.Prelude.{◌≡◌, ℕ, List, Option}
use Rattle.std.specs.Bool.{Decides}
use Rattle.arrow_memory.specs.NumberEquality.{same_numbers, same_numbers-Decides}
use Rattle.arrow_column.specs.ArrayEquality.{TypedSlots, same_typed, same_typed-Decides}
use Rattle.arrow_column.specs.SlotEquality.{same_slots, same_slots-Decides}

-- the test of two lists of slots decides their equality
pub same_byte_slots-Decides : (ss ts : List (Option (List ℕ))) → Decides (same_slots same_numbers ss ts) (ss ≡ ts)
same_byte_slots-Decides = same_slots-Decides same_numbers same_numbers-Decides

-- the test of two data types with lists of slots decides their equality
pub typed_bytes-Decides : (x y : TypedSlots (List ℕ)) → Decides (same_typed same_numbers x y) (x ≡ y)
typed_bytes-Decides = same_typed-Decides same_numbers same_numbers-Decides
