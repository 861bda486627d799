-- Where parts of arrays are wrong.
use Rattle.std.specs.Prelude.{ℕ, ℤ, List, ◌∷◌, Bool, IsSomeAnd, Option, int_lt, pos, position, slice_get, take}
use Rattle.std.specs.List.{zip}
use Rattle.arrow_check.specs.Texts.{AreTexts}
use Rattle.arrow_check.specs.Utf8.{IsWellFormed}

-- the items before index i are texts, and item i is not
abbrev pub IsFirstUnfit : List (List ℕ) → ℕ → Type 0
IsFirstUnfit items i = AreTexts (take i items) × IsSomeAnd (slice_get items i) (λ item. ¬ IsWellFormed item)

-- whether the second of two integers is below the first
abbrev pub falls : ℤ × ℤ → Bool
falls pair = int_lt pair.1 pair.0

-- each of these integers behind the one before it; before the first is 0
abbrev pub steps_of : List ℤ → List (ℤ × ℤ)
steps_of offsets = zip (pos 0 ∷ offsets) offsets

-- the index of the first of these integers that is below the one before it, or below 0 if it is the first
abbrev pub first_fall : List ℤ → Option ℕ
first_fall offsets = position falls (steps_of offsets)
