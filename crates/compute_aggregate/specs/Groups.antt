-- Aggregates of groups of slots: the sum, the least and the greatest value, and the number of valid slots of each
-- group.
use Rattle.std.specs.Prelude.{◌≡◌, [], MatchOption, ◌+◌, ◌^◌, ◌%◌, ◌==◌, ℕ, List, length, Option, Some, None, if◌then◌else◌, slice_get}
use Rattle.std.specs.List.{filter_map, zip}
use Rattle.std.specs.declared.cmp.Ordering.{Ordering}
use Rattle.std.specs.Prelude.{◌<◌, Bool, not, filter, fold, map, option_map}
use Rattle.std.specs.List.{sum_by}
use Rattle.std.specs.Option.{option_map_or}
use Rattle.arrow_memory.specs.Rows.{slot}
use Rattle.arrow_types.specs.Types.{LogicalType, default_logical_type}
use Rattle.arrow_types.specs.declared.primitive_type.PrimitiveType.TheVariants.{UInt64}
use Rattle.arrow_column.specs.Column.{Column, ColumnWith, all_valid, slots_of}
use Rattle.compute_group.specs.Grouping.{GroupLists}
-- an array of a type and slots, which holds a mask exactly if one of them is null
pub use Rattle.arrow_column.specs.Combined.{MakesSlots}
use Rattle.compute_aggregate.specs.Aggregates.{IsGreatest, IsLeast, extreme_slot}
use Rattle.compute_aggregate.specs.declared.aggregate.extreme.Extreme.{Extreme}
use Rattle.compute_aggregate.specs.declared.aggregate.extreme.Extreme.TheVariants.{Greatest, Least}

-- the values of the slots of group g among slots and their groups
abbrev pub values_at : {S : Type 0} → List (ℕ × Option S) → ℕ → List S
values_at pairs g = filter_map (λ pair. if pair.0 == g then pair.1 else None) pairs

-- the values of the valid slots of group g, in order
abbrev pub group_values : {A S : Type 0} → ColumnWith A S → List ℕ → ℕ → List S
group_values column indices g = values_at (zip indices (slots_of column)) g

-- the sizes of the values of the valid slots together
abbrev pub total_size : {S : Type 0} → (S → ℕ) → List (Option S) → ℕ
total_size size slots = sum_by (λ slot. option_map_or size slot 0) slots

-- an array of this type with a slot for each group, which is as this says; a mask is held exactly if one is null
pub record GroupSlots {A S : Type 0} (t : LogicalType) (groups : ℕ) (Holds : ℕ → Option S → Type 0)
    (made : ColumnWith A S) : Type 0 where
  pub data_type : made.data_type ≡ t
  pub held : made.held ≡ not (all_valid made)
  pub count : length made.rows ≡ groups
  pub slots : (g : ℕ) (slot : Option S) → slice_get (slots_of made) g ≡ Some slot → Holds g slot

-- an array of the type of another with a slot for each group, which is as this says of the group's values
abbrev pub AggregatesGroups : {A S : Type 0} → (List S → Option S → Type 0) → ColumnWith A S → List ℕ → ℕ
    → ColumnWith A S → Type 0
AggregatesGroups Holds column indices groups = GroupSlots column.data_type groups
    (λ g. Holds (group_values column indices g))

-- one value more in a state, if there is one
abbrev pub fold_slot : {Y S : Type 0} → (Y → S → Y) → Y → Option S → Y
fold_slot step state (Some value) = step state value
fold_slot step state None = state

-- the numbers of slots' groups, each with itself as the value of a slot
abbrev pub own_pairs : List ℕ → List (ℕ × Option ℕ)
own_pairs indices = map (λ number. (number, Some number)) indices

-- the number of slots of group g
abbrev pub group_size : List ℕ → ℕ → ℕ
group_size indices g = length (filter (λ number. number == g) indices)

-- one more, modulo 2 ^ 64
abbrev pub count_step : {S : Type 0} → ℕ → S → ℕ
count_step n value = (n + 1) % 2 ^ 64

-- a slot that is the least of the values, and null if there is none
abbrev pub IsLeastSlot : {X : Type 0} → (X → X → Ordering) → List X → Option X → Type 0
IsLeastSlot cmp values slot = MatchOption slot (values ≡ []) (IsLeast cmp values)

-- a slot that is the greatest of the values, and null if there is none
abbrev pub IsGreatestSlot : {X : Type 0} → (X → X → Ordering) → List X → Option X → Type 0
IsGreatestSlot cmp values slot = MatchOption slot (values ≡ []) (IsGreatest cmp values)

-- a slot that is an extreme of the values, and null if there is none
abbrev pub IsExtremeSlot : {X : Type 0} → Extreme → (X → X → Ordering) → List X → Option X → Type 0
IsExtremeSlot Least cmp = IsLeastSlot cmp
IsExtremeSlot Greatest cmp = IsGreatestSlot cmp

-- states of groups, which begin with the same one, after values were folded into them, each with its group
abbrev pub StatesOf : {S Y : Type 0} → (Y → S → Y) → Y → List (ℕ × Option S) → ℕ → List Y → Type 0
StatesOf step start pairs groups states = (g : ℕ) → g < groups
    → slice_get states g ≡ Some (fold step start (values_at pairs g))

-- states of groups after the slots of a column were folded into them
abbrev pub GroupStates : {A S Y : Type 0} → (Y → S → Y) → Y → ColumnWith A S → List ℕ → ℕ → List Y → Type 0
GroupStates step start column indices groups states = StatesOf step start (zip indices (slots_of column)) groups states

-- the extreme of the values so far, if there are any, and of one more
abbrev pub extreme_step : {S : Type 0} → Extreme → (S → S → Ordering) → Option S → S → Option S
extreme_step extreme cmp best value = extreme_slot extreme cmp best (Some value)

-- what is seen of a value is the extreme so far and of one more slot, which is given by its value and its mark
abbrev pub KeepsExtreme : {S V : Type 0} → Extreme → (S → S → Ordering) → (V → S) → Option V → V × Bool → Option V
    → Type 0
KeepsExtreme extreme cmp seen best row kept =
    option_map seen kept ≡ fold_slot (extreme_step extreme cmp) (option_map seen best) (slot (seen row.0, row.1))

-- the extreme value of each group
abbrev pub ExtremesOfGroups : {A S : Type 0} → Extreme → (S → S → Ordering) → ColumnWith A S → List ℕ → ℕ → List (Option S)
    → Type 0
ExtremesOfGroups extreme cmp column indices groups best =
    GroupStates (extreme_step extreme cmp) None column indices groups best

-- what contracts see of slots
abbrev pub as_seen : {V S : Type 0} → (V → S) → List (Option V) → List (Option S)
as_seen seen slots = map (option_map seen) slots

-- what is seen of slots is the extreme value of each group
abbrev pub SeenExtremes : {A S V : Type 0} → Extreme → (S → S → Ordering) → (V → S) → ColumnWith A S → GroupLists
    → List (Option V) → Type 0
SeenExtremes extreme cmp seen column groups best =
    ExtremesOfGroups extreme cmp column groups.indices (length groups.first) (as_seen seen best)

-- these are the numbers of the valid slots of each group, modulo 2 ^ 64
abbrev pub CountsValid : {A S : Type 0} → ColumnWith A S → GroupLists → List ℕ → Type 0
CountsValid column groups counts = GroupStates count_step 0 column groups.indices (length groups.first) counts

-- an array with the number of valid slots of each group
abbrev pub CountsGroups : {A S : Type 0} → ColumnWith A S → List ℕ → ℕ → Column ℕ → Type 0
CountsGroups column indices groups made = GroupSlots (default_logical_type UInt64) groups (λ g slot. slot
    ≡ Some (length (group_values column indices g))) made

-- an array with the number of slots of each group, null slots included
abbrev pub CountsRows : List ℕ → ℕ → Column ℕ → Type 0
CountsRows indices groups made = GroupSlots (default_logical_type UInt64) groups (λ g slot. slot
    ≡ Some (group_size indices g)) made
