-- Three-valued logic (Kleene's), in which a null is a boolean that is not known.
use Rattle.std.specs.Prelude.{◌≡◌, ◌+◌, ◌<◌, ◌==◌, ◌||◌, slice_get, ℕ, Bool, true, false, List, [], ◌∷◌, map, Option, Some, None, is_some}
use Rattle.std.specs.Prelude.{if◌then◌else◌, refl}
use Rattle.std.specs.Int.{bit_at}
use Rattle.std.specs.List.{zip}
use Rattle.arrow_memory.specs.Marks.{block_mark}
use Rattle.arrow_memory.specs.Rows.{slot}
use Rattle.arrow_column.specs.Column.{Column, slots_of}

-- false where either is false, true where both are true, else null
abbrev pub kleene_and : Option Bool → Option Bool → Option Bool
kleene_and (Some true) y = y
kleene_and (Some false) y = Some false
kleene_and None (Some false) = Some false
kleene_and None y = None

-- true where either is true, false where both are false, else null
abbrev pub kleene_or : Option Bool → Option Bool → Option Bool
kleene_or (Some false) y = y
kleene_or (Some true) y = Some true
kleene_or None (Some true) = Some true
kleene_or None y = None

-- the `or` of all slots, and the `and` of all slots
abbrev pub any_of : List (Option Bool) → Option Bool
any_of [] = Some false
any_of (x ∷ xs) = kleene_or x (any_of xs)

abbrev pub all_of : List (Option Bool) → Option Bool
all_of [] = Some true
all_of (x ∷ xs) = kleene_and x (all_of xs)

-- the slot whose value and whose mark are bit k of two words
abbrev pub slot_bit : ℕ → ℕ → ℕ → Option Bool
slot_bit values marks k = slot (bit_at values k == 1, bit_at marks k == 1)

-- the slot whose value and whose mark are bit k of eight words each
abbrev pub block_slot : List ℕ → List ℕ → ℕ → Option Bool
block_slot values marks k = slot (block_mark values k, block_mark marks k)

-- the 512 slots from index `place` on are those of eight words of values and eight of marks
abbrev pub HoldsSlotBlock : List (Option Bool) → ℕ → List ℕ → List ℕ → Type 0
HoldsSlotBlock slots place values marks =
    (k : ℕ) → k < 512 → slice_get slots (place + k) ≡ Some (block_slot values marks k)

-- the bits of eight words are whether the result of an operation on each two of 512 slots is known
abbrev pub KnowsBlock : (Option Bool → Option Bool → Option Bool) → List ℕ → List ℕ → List ℕ → List ℕ → List ℕ → Type 0
KnowsBlock table values marks others other_marks known = (k : ℕ) → k < 512
    → block_mark known k ≡ is_some (table (block_slot values marks k) (block_slot others other_marks k))

-- whether the result of an operation on the slots at each index of two lists is known, that is, not null
abbrev pub known_slots : (Option Bool → Option Bool → Option Bool) → List (Option Bool) → List (Option Bool) → List Bool
known_slots table xs ys = map (λ pair. is_some (table pair.0 pair.1)) (zip xs ys)

-- whether the result of an operation on each slot of a list and a null is known
abbrev pub known_with_null : (Option Bool → Option Bool → Option Bool) → List (Option Bool) → List Bool
known_with_null table xs = map (λ x. is_some (table x None)) xs

-- what is known beside a null is the slot's value
abbrev pub KeepsSlotValues : (Option Bool → Option Bool → Option Bool) → Type 0
KeepsSlotValues table = (value mark : Bool) → slot (value, is_some (table (slot (value, mark)) None))
    ≡ table (slot (value, mark)) None

pub and_with_null : KeepsSlotValues kleene_and
and_with_null value false = refl
and_with_null true true = refl
and_with_null false true = refl

pub or_with_null : KeepsSlotValues kleene_or
or_with_null true true = refl
or_with_null true false = refl
or_with_null false true = refl
or_with_null false false = refl

-- the mask of the result of an operation on two arrays, if either holds one
abbrev pub mask_of_known : (Option Bool → Option Bool → Option Bool) → Column Bool → Column Bool → Option (List Bool)
mask_of_known table lhs rhs =
    if lhs.held || rhs.held then Some (known_slots table (slots_of lhs) (slots_of rhs)) else None
