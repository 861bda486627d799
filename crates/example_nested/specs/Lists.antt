-- Lists of slots: what offsets cut out of an inner array.
use Rattle.std.specs.Prelude.{◌≡◌, ℕ, ◌+◌, ◌<◌, ◌≤◌, Bool, List, length, map, Option, Some, option_and_then, slice_get}
use Rattle.std.specs.Option.{option_flatten}
use Rattle.dethrugn.specs.Validation.{Passes, Tests, accept, test}
use Rattle.dethrugn.specs.Bounds.{past_values}
use Rattle.dethrugn.specs.Column.{unfit_mask}
use Rattle.dethrugn.specs.Offsets.{last_of}
use Rattle.dethrugn.specs.Pieces.{item_from, items_of}
use Rattle.dethrugn.specs.Rows.{FitsMask, Row, rows_of}

-- an array of lists: a row for each, which stores the slots of the list
abbrev pub Lists : Type 0 → Type 0
Lists S = List (Row (List (Option S)))

module _ {S : Type 0} (offsets : List ℕ) (slots : List (Option S)) (mask : Option (List Bool)) where
  -- the lists that offsets cut out of slots, with the marks of a mask
  abbrev pub lists_of : Lists S
  lists_of = rows_of (items_of offsets slots) mask

  -- the tests of parts, in order: the last offset is within the slots, and a mask has a mark for each list
  abbrev pub list_tests : Tests
  list_tests =
      test (last_of offsets ≤ length slots) past_values
      (test (FitsMask (items_of offsets slots) mask) unfit_mask accept)

-- slot k of list i, or a null where there is no such list or slot
abbrev pub slot_in_list : {S : Type 0} → List (Option (List (Option S))) → ℕ → ℕ → Option S
slot_in_list lists i k =
    option_flatten (option_and_then (λ list. slice_get list k) (option_flatten (slice_get lists i)))

-- list i of parts that pass the tests has the slots from offset i up to the next
abbrev pub ListLiesBetween : {S : Type 0} → List ℕ → List (Option S) → Option (List Bool) → ℕ → Type 0
ListLiesBetween offsets slots mask i = Passes (list_tests offsets slots mask) → i + 1 < length offsets
    → slice_get (map (λ row. row.0) (lists_of offsets slots mask)) i ≡ Some (item_from offsets slots i)
