-- Which keys point at an item of a list, and why others are refused.
use Rattle.std.specs.Prelude.{◌≡◌, ◌<◌, ℕ, ℤ, Bool, false, not, nat_lt, codes, is_some, if◌then◌else◌, List, Option}
use Rattle.std.specs.Prelude.{find, All, IsSomeAnd, Result, IsOk, IsErrAnd, MatchOption}
use Rattle.std.specs.List.{filter_map}
use Rattle.std.specs.Option.{option_map_or}
use Rattle.arrow_types.specs.IndexKey.{index_of}
use Rattle.arrow_types.specs.Types.{Refusal, out_of_spec, refusal}
use Rattle.arrow_types.specs.declared.error.Error.{Error}
use Rattle.arrow_memory.specs.Rows.{rows_of, slot}

-- whether a number is the index of an item in a list of this length
abbrev pub in_bounds : ℕ → ℤ → Bool
in_bounds length key = option_map_or (λ index. nat_lt index length) (index_of key) false

-- the refusal of a key that is out of bounds: it is negative or does not fit in a usize, or else it is past the items
abbrev pub key_refusal : ℤ → Refusal
key_refusal key =
    if is_some (index_of key)
    then out_of_spec (codes "a dictionary key must be below the length of the dictionary values")
    else out_of_spec (codes "the dictionary key must fit in a usize")

-- the first key, if there is one, that is no index of an item in a list of this length
abbrev pub first_bad_key : {K : Type 0} → (K → ℤ) → ℕ → List K → Option K
first_bad_key number len keys = find (λ key. not (in_bounds len (number key))) keys

-- every key is the index of an item in a list of this length
abbrev pub AllInBounds : {K : Type 0} → (K → ℤ) → ℕ → List K → Type 0
AllInBounds number len keys = All (λ key. IsSomeAnd (index_of (number key)) (λ index. index < len)) keys

-- the call fails with the refusal of this key
abbrev pub FailsAt : {K R : Type 0} → (K → ℤ) → Result R Error → K → Type 0
FailsAt number result key = IsErrAnd result (λ e. refusal e ≡ key_refusal (number key))

-- the call succeeds if every key is such an index, and fails with the refusal of the first that is not
abbrev pub ChecksKeys : {K R : Type 0} → (K → ℤ) → ℕ → List K → Result R Error → Type 0
ChecksKeys number len keys result = MatchOption (first_bad_key number len keys) (IsOk result) (FailsAt number result)

-- the keys of the valid slots, in order
abbrev pub valid_keys : {K : Type 0} → List K → Option (List Bool) → List K
valid_keys keys mask = filter_map slot (rows_of keys mask)
