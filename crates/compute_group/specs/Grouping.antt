-- Groups of equal slots, numbered in the order of their first slots.
use Rattle.std.specs.Prelude.{◌≡◌, ◌≢◌, ℕ, ◌+◌, ◌<◌, nat_le, Option, None, ◌++◌, ◌∷◌, ◌⊎◌, [], Bool, true, List, length, Some, slice_get}
use Rattle.std.specs.Prelude.{if◌then◌else◌, ◌≤◌, ◌^◌, ◌==◌, All, filter, get_or}
use Rattle.std.specs.Int.{IsPowerOfTwo}
use Rattle.std.specs.List.{list_any, range_with_len, zip}
use Rattle.arrow_column.specs.Column.{ColumnWith, slots_of}

-- the groups of equal slots: the first slot of each, in order, and the number of each slot's group
pub record IsGrouping {X : Type 0} (slots : List X) (first numbers : List ℕ) : Type 0 where
  -- every slot has the number of a group, whose first slot is equal to it
  pub count : length numbers ≡ length slots
  pub members : (i g : ℕ) → slice_get numbers i ≡ Some g → (f : ℕ) × (slice_get first g ≡ Some f)
      × (slice_get slots f ≡ slice_get slots i)
  -- no slot before the first of a group is equal to it, and the groups are in the order of these
  pub within : (g f : ℕ) → slice_get first g ≡ Some f → f < length slots
  pub news : (g f i : ℕ) → slice_get first g ≡ Some f → i < f → slice_get slots i ≢ slice_get slots f
  pub order : (g h e f : ℕ) → g < h → slice_get first g ≡ Some e → slice_get first h ≡ Some f → e < f

-- what contracts see of groups: the index of the first slot of each, and the number of each slot's group
pub record GroupLists : Type 0 where
  pub first : List ℕ
  pub indices : List ℕ

-- what is so of groups, whatever their slots were: they are those of equal numbers, each number is that of a group, and
-- the first slots are slots
pub record AreGroups (first numbers : List ℕ) : Type 0 where
  pub groups : IsGrouping numbers first numbers
  pub within : All (λ number. number < length first) numbers
  pub firsts : All (λ place. place < length numbers) first

-- the groups of the pairs of the numbers of two groupings
abbrev pub GroupsPairs : GroupLists → GroupLists → GroupLists → Type 0
GroupsPairs left right groups = IsGrouping (zip left.indices right.indices) groups.first groups.indices

-- whether the slot at an index is in a group, by the numbers of the slots' groups
abbrev pub is_in_group : List ℕ → ℕ → ℕ → Bool
is_in_group numbers group i = get_or numbers i 0 == group

-- the indexes of the slots of a group, in order
abbrev pub rows_of_group : List ℕ → ℕ → List ℕ
rows_of_group numbers group = filter (is_in_group numbers group) (range_with_len 0 (length numbers))

-- a fact of any groups of the slots of a column: of the column, the first slots and the numbers
abbrev pub ForGroupings : (A S : Type 0) → (ColumnWith A S → List ℕ → List ℕ → Type 0) → Type 0
ForGroupings A S P = (column : ColumnWith A S) (first numbers : List ℕ)
    → IsGrouping (slots_of column) first numbers → P column first numbers

-- slots whose numbers are equal are equal
abbrev pub AreEqualInGroups : {X : Type 0} → List X → List ℕ → Type 0
AreEqualInGroups slots numbers = (i j g : ℕ) → slice_get numbers i ≡ Some g → slice_get numbers j ≡ Some g
    → slice_get slots i ≡ slice_get slots j

-- the numbers of equal slots are equal
abbrev pub EqualsShareGroups : {X : Type 0} → List X → List ℕ → Type 0
EqualsShareGroups {X} slots numbers = (i j : ℕ) (s : X) → slice_get slots i ≡ Some s → slice_get slots j ≡ Some s
    → slice_get numbers i ≡ slice_get numbers j

-- the first slots of groups after a key at this index, which begins a new group if no key of a group is equal
abbrev pub first_after : {K : Type 0} → (K → K → Bool) → List K → List ℕ → ℕ → K → List ℕ
first_after eq groups first place key = if list_any (eq key) groups then first else first ++ place ∷ []

-- the number of the group of the key at this index among the keys, in which the group of the null slots has no key
abbrev pub number_of : Option ℕ → ℕ → ℕ
number_of None index = index
number_of (Some null) index = if nat_le null index then index + 1 else index

-- the number of the group whose key is equal to this one
abbrev pub NumbersKey : {K : Type 0} → (K → K → Bool) → K → List K → Option ℕ → ℕ → Type 0
NumbersKey {K} eq key groups null number = (g : ℕ) × (k : K) × (number ≡ number_of null g) × (slice_get groups g ≡ Some k)
    × (eq key k ≡ true)

-- the number of the group of the null slots, which is new if there is none
abbrev pub null_number : Option ℕ → List ℕ → ℕ
null_number None first = length first
null_number (Some null) first = null

-- the first slots of groups after a null at this index
abbrev pub null_first : Option ℕ → List ℕ → ℕ → List ℕ
null_first None first place = first ++ place ∷ []
null_first (Some null) first place = first

-- a hint is a key and the number of its group: one of these hints has a key that is equal to this one, and this number
abbrev pub HintsNumber : {K : Type 0} → (K → K → Bool) → List (K × ℕ) → K → ℕ → Type 0
HintsNumber {K} eq hints key number = (i : ℕ) × (k : K) × (slice_get hints i ≡ Some (k, number)) × (eq key k ≡ true)

-- each of the new hints is one of the old ones, or this one
abbrev pub AddsHint : {K : Type 0} → List (K × ℕ) → K × ℕ → List (K × ℕ) → Type 0
AddsHint {K} old hint new = (i : ℕ) (h : K × ℕ) → slice_get new i ≡ Some h
    → ((j : ℕ) × (slice_get old j ≡ Some h)) ⊎ (h ≡ hint)

-- a number of places for hints at the groups of this many slots: none, or a power of two that is at most 16384 and at
-- most the number of slots
abbrev pub ArePlaces : ℕ → ℕ → Type 0
ArePlaces count places = (places ≡ 0) ⊎ (IsPowerOfTwo places × (places ≤ 2 ^ 14) × (places ≤ count))
