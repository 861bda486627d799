-- Arithmetic on slots, through the numbers that values are. `number` is that of `NativeArithmetics`.
use Rattle.std.specs.Prelude.{◌≡◌, ◌≢◌, ℤ, pos, Bool, false, true, List, map, Option, Some, None, IfSome, option_map}
use Rattle.std.specs.Prelude.{if◌then◌else◌}
use Rattle.std.specs.List.{All, zip}
use Rattle.std.specs.Ordering.{int_eq}
use Rattle.arrow_column.specs.Column.{Column, slots_of}
-- the results of a function on the values at each index of two lists
pub use Rattle.arrow_column.specs.Combined.{of_pairs}
use Rattle.compute_base.specs.Slots.{CombinesSlots, MapsSlots, combine_valid}
-- an array whose slots are null where a function has no result
pub use Rattle.compute_base.specs.Slots.{MapsSlotsIf}

-- ---- values

module _ {X : Type 0} (number : X → ℤ) where
  -- the result of a function on two values, or `instead` if the second is zero
  abbrev pub unless_zero : X → (X → X → X) → X → X → X
  unless_zero instead make x y = if int_eq (number y) (pos 0) then instead else make x y

  -- whether a slot holds zero
  abbrev pub slot_is_zero : Option X → Bool
  slot_is_zero None = false
  slot_is_zero (Some y) = int_eq (number y) (pos 0)

  -- no valid slot holds zero
  abbrev pub NoSlotIsZero : List (Option X) → Type 0
  NoSlotIsZero slots = All (λ slot. IfSome slot (λ y. number y ≢ pos 0)) slots

  -- whether both slots are valid, and the second holds zero
  abbrev pub divides_by_zero : Option X → Option X → Bool
  divides_by_zero None divisor = false
  divides_by_zero (Some x) divisor = slot_is_zero divisor

  -- at each index where both slots are valid, the second doesn't hold zero
  abbrev pub NoZeroDivisor : List (Option X) → List (Option X) → Type 0
  NoZeroDivisor dividends divisors =
      All (λ pair. IfSome pair.0 (λ x. IfSome pair.1 (λ y. number y ≢ pos 0))) (zip dividends divisors)

-- ---- slots

-- null where either slot is null or the function has no result for the two values, else the result
abbrev pub combine_valid_if : {X Y Z : Type 0} → (X → Y → Option Z) → Option X → Option Y → Option Z
combine_valid_if make (Some x) (Some y) = make x y
combine_valid_if make (Some x) None = None
combine_valid_if make None y = None

-- ---- arrays, of the type of the left one

module _ {X : Type 0} where
  -- each slot is the result of a function on the two slots at its index; a mask is held if either array holds one
  abbrev pub CombinesValues : (X → X → X) → Column X → Column X → Column X → Type 0
  CombinesValues make lhs rhs made = CombinesSlots lhs.data_type (combine_valid make) lhs rhs made

  -- each slot is the result of a function on the slot at its index; a mask is held if the array holds one
  abbrev pub MapsValues : (X → X) → Column X → Column X → Type 0
  MapsValues make array made = MapsSlots array.data_type (option_map make) array made

  -- each slot is the result of a function on the two slots at its index, null where there is none; a mask is held
  pub record CombinesValuesIf (make : X → X → Option X) (lhs rhs made : Column X) : Type 0 where
    pub data_type : made.data_type ≡ lhs.data_type
    pub slots : slots_of made ≡ map (λ pair. combine_valid_if make pair.0 pair.1) (zip (slots_of lhs) (slots_of rhs))
    pub held : made.held ≡ true

  -- each slot is the result of a function on the slot at its index, null where there is none; a mask is held
  abbrev pub MapsValuesIf : (X → Option X) → Column X → Column X → Type 0
  MapsValuesIf make array made = MapsSlotsIf array.data_type make array made
