-- Slots that kernels select of the slots of arrays, and arrays that are made of slots.
use Rattle.std.specs.Prelude.{⊤, ◌≡◌, ◌&&◌, ℕ, ℤ, Bool, true, false, List, [], length, map, Option, Some, None}
use Rattle.std.specs.Prelude.{unwrap_or, if◌then◌else◌}
use Rattle.std.specs.List.{zip}
use denote.Ref.{Bor}
use Rattle.arrow_types.specs.Types.{LogicalType, binary, plain}
use Rattle.arrow_types.specs.declared.error.Error.{Error}
use Rattle.arrow_memory.specs.Offsets.{MatchGrowth}
use Rattle.arrow_column.specs.Column.{Column, ColumnWith, mask_of, slots_fit, slots_of, stored_values}
use Rattle.arrow_column.specs.Combined.{MakesSlots}
use Rattle.arrow_column.specs.Masks.{mask_with_nulls}
use Rattle.arrow_check.specs.Indexes.{first_bad_key, valid_keys}
use Rattle.arrow_bytes.specs.Column.{ByteColumn, empty_bytes, item_overflows}
use Rattle.arrow_bytes.specs.Selection.{Concatenates, at_key, concat_overflows}
use Rattle.arrow_bytes.specs.Pieces.{nothing_around}
use Rattle.compute_base.specs.Slots.{stored_of, valid_of}

-- whether none of these items, one after the other, ends past the greatest offset
abbrev pub items_fit : ℕ → List (Option (List ℕ)) → Bool
items_fit most shown =
    slots_fit (item_overflows (λ bytes. bytes) most) (λ bytes. bytes) [] (empty_bytes (plain binary)) shown

-- an array of items, none of which ends past the greatest offset
abbrev pub MakesItems : ℕ → LogicalType → List (Option (List ℕ)) → ByteColumn → Type 0
MakesItems most t shown made = (items_fit most shown ≡ true) × MakesSlots t shown made

-- the error if no array of these items is made: one ends past the greatest offset, or else an allocation failed
abbrev pub RefusesItems : ℕ → List (Option (List ℕ)) → Error → Type 0
RefusesItems most shown e = MatchGrowth e (items_fit most shown ≡ false) ⊤

-- the keys of the slots that are not null, in order
abbrev pub keys_shown : {A K : Type 0} → ColumnWith A K → List K
keys_shown keys = valid_keys (stored_values keys) (mask_of keys)

-- the slot at a key; a null if the key is null or out of bounds
abbrev pub slot_at_key : {K X : Type 0} → (K → ℤ) → List (Option X) → Option K → Option X
slot_at_key number slots None = None
slot_at_key number slots (Some key) = unwrap_or (at_key slots (number key)) None

abbrev pub slots_at_keys : {K X : Type 0} → (K → ℤ) → List (Option X) → List (Option K) → List (Option X)
slots_at_keys number slots keys = map (slot_at_key number slots) keys

-- the first slot where the predicate is true, the second where it is false, and a null where it is null
abbrev pub chosen_slot : {X : Type 0} → Option Bool → Option X → Option X → Option X
chosen_slot (Some true) x y = x
chosen_slot (Some false) x y = y
chosen_slot None x y = None

abbrev pub chosen_slots : {X : Type 0} → List (Option Bool) → List (Option X) → List (Option X) → List (Option X)
chosen_slots predicate lhs rhs = map (λ row. chosen_slot row.0 row.1.0 row.1.1) (zip predicate (zip lhs rhs))

-- the first slot, or a null where both slots are valid and equal
abbrev pub null_if_equal : {X : Type 0} → (X → X → Bool) → Option X → Option X → Option X
null_if_equal same (Some x) (Some y) = if same x y then None else Some x
null_if_equal same (Some x) None = Some x
null_if_equal same None y = None

abbrev pub slots_null_if : {X : Type 0} → (X → X → Bool) → List (Option X) → List (Option X) → List (Option X)
slots_null_if same lhs rhs = map (λ pair. null_if_equal same pair.0 pair.1) (zip lhs rhs)

-- ---- what arrays of slots hold
-- the mask of slots, which is held exactly if one is null
abbrev pub mask_shown : {X : Type 0} → List (Option X) → Option (List Bool)
mask_shown shown = mask_with_nulls (Some (valid_of shown))

-- the items of slots; that of a null has no byte
abbrev pub items_shown : List (Option (List ℕ)) → List (List ℕ)
items_shown shown = stored_of [] shown

-- the first value where the predicate is true, else the second
abbrev pub chosen_values : {X : Type 0} → List Bool → List X → List X → List X
chosen_values predicate xs ys = map (λ row. if row.0 then row.1.0 else row.1.1) (zip predicate (zip xs ys))

-- the value at each key; the default if the key is out of bounds
abbrev pub values_at_keys : {K X : Type 0} → (K → ℤ) → X → List X → List K → List X
values_at_keys number default xs keys = map (λ key. unwrap_or (at_key xs (number key)) default) keys

-- ---- stored values of columns
-- the mark at each key; clear if the key is null or out of bounds
abbrev pub marks_at_keys : {K : Type 0} → (K → ℤ) → List Bool → Column K → List Bool
marks_at_keys number marks keys = map (λ row. row.1 && unwrap_or (at_key marks (number row.0)) false) keys.rows

-- the slots of one of two lists, chosen by a predicate; and the slots of one of two columns
abbrev pub chosen_by : {X : Type 0} → Column Bool → List (Option X) → List (Option X) → List (Option X)
chosen_by predicate lhs rhs = chosen_slots (slots_of predicate) lhs rhs

abbrev pub slots_chosen : {A X : Type 0} → Column Bool → ColumnWith A X → ColumnWith A X → List (Option X)
slots_chosen predicate lhs rhs = chosen_by predicate (slots_of lhs) (slots_of rhs)

-- the slots of a column, null where the slot of another column is valid and equal
abbrev pub slots_differing : {A X : Type 0} → (X → X → Bool) → ColumnWith A X → ColumnWith A X → List (Option X)
slots_differing same lhs rhs = slots_null_if same (slots_of lhs) (slots_of rhs)

-- the slots of a column at keys, and the first valid key that is out of bounds
abbrev pub slots_taken : {A X K : Type 0} → (K → ℤ) → ColumnWith A X → Column K → List (Option X)
slots_taken number array keys = slots_at_keys number (slots_of array) (slots_of keys)

abbrev pub first_bad_shown : {A X K : Type 0} → (K → ℤ) → ColumnWith A X → Column K → Option K
first_bad_shown number array keys = first_bad_key number (length array.rows) (keys_shown keys)

-- the error if items at keys that are all in bounds are not taken
abbrev pub ItemsNotTaken : {K : Type 0} → ℕ → (K → ℤ) → ByteColumn → Column K → Error → Type 0
ItemsNotTaken most number array keys e = first_bad_shown number array keys ≡ None
    → RefusesItems most (slots_taken number array keys) e

-- the values that references refer to
abbrev pub values_behind : {V : Type 0} → List (Bor V) → List V
values_behind references = map (λ reference. reference.now) references

-- a concatenation of items, which end at most at the greatest offset
abbrev pub ConcatenatesItems : ℕ → List ByteColumn → ByteColumn → Type 0
ConcatenatesItems most columns made = (concat_overflows most columns ≡ false)
    × Concatenates nothing_around columns made

-- the error if items are not concatenated: they overflow, or else an allocation failed
abbrev pub ItemsNotConcatenated : ℕ → List ByteColumn → Error → Type 0
ItemsNotConcatenated most columns e = MatchGrowth e (concat_overflows most columns ≡ true) ⊤
