-- Sums of the numbers of groups, as those of their high and of their low parts.
use Rattle.std.specs.Prelude.{◌≡◌, ◌*◌, ◌<◌, ◌≤◌, ◌^◌, ℕ, ℤ, Bool, false, List, length, map, nat_lt, Option, Some, None, if◌then◌else◌, slice_get}
use Rattle.std.specs.Prelude.{◌⊎◌, ◌+ℤ◌, ◌||◌, is_some, slice_set, take, unsigned_abs}
use Rattle.std.specs.List.{zip}
use Rattle.arrow_types.specs.Types.{LogicalType}
use Rattle.arrow_types.specs.declared.error.Error.{Error}
use Rattle.arrow_types.specs.declared.error.Error.TheVariants as error
use Rattle.std.specs.Prelude.{option_map}
use Rattle.arrow_column.specs.Column.{Column, ColumnWith}
use Rattle.arrow_memory.specs.Rows.{Row, rows_of, slot}
use Rattle.compute_group.specs.Grouping.{GroupLists}
use Rattle.compute_aggregate.specs.Aggregates.{sum_all, sum_of}
use Rattle.compute_aggregate.specs.Groups.{GroupSlots, group_values, values_at}
use Rattle.compute_aggregate.specs.Sums.{TotalOverflows, number_or_zero, sum_split}

-- the parts of the sum of these values, at most n, and whether there is a value
pub record IsGroupSum {T : Type 0} (number : T → ℤ) (values : List T) (n : ℕ) (parts : (ℤ × ℕ) × Bool) : Type 0 where
  pub total : sum_split (parts.0) ≡ sum_all (map number values)
  pub some : parts.1 ≡ nat_lt 0 (length values)
  pub high : unsigned_abs (parts.0.0) ≤ n * 2 ^ 63
  pub low : parts.0.1 ≤ n * (2 ^ 64)

-- the number of the slot of a sum; none if there is no value
abbrev pub sum_slot_of : (ℤ × ℕ) × Bool → Option ℤ
sum_slot_of sum = if sum.1 then Some (sum_split (sum.0)) else None

-- the error of a sum that does not fit
abbrev pub SlotOverflow : (ℤ → Bool) → (ℤ × ℕ) × Bool → Error → Type 0
SlotOverflow fits sum = TotalOverflows fits (sum_split (sum.0))

-- the error if sums do not become slots: one does not fit, or an allocation failed
abbrev pub SlotsRefused : (ℤ → Bool) → List ((ℤ × ℕ) × Bool) → Error → Type 0
SlotsRefused fits sums e = (e ≡ error.OutOfMemory)
    ⊎ ((g : ℕ) × (sum : (ℤ × ℕ) × Bool) × (slice_get sums g ≡ Some sum) × SlotOverflow fits sum e)

-- the error if groups are not summed: the sum of one group does not fit, or an allocation failed
abbrev pub GroupsRefused : (ℤ → Bool) → ℕ → (ℕ → List ℤ) → Error → Type 0
GroupsRefused fits groups numbers e = (e ≡ error.OutOfMemory)
    ⊎ ((e ≡ error.Overflow) × ((g : ℕ) × (g < groups) × (fits (sum_all (numbers g)) ≡ false)))

-- the error if the groups of the slots of a column are not summed
abbrev pub GroupSumsRefused : {A T : Type 0} → (ℤ → Bool) → (T → ℤ) → ColumnWith A T → List ℕ → ℕ → Error → Type 0
GroupSumsRefused fits number column indices groups =
    GroupsRefused fits groups (λ g. map number (group_values column indices g))

-- the error if the valid slots of groups are not summed
abbrev pub SumsRefused : {A T : Type 0} → (T → ℤ) → (ℤ → Bool) → ColumnWith A T → GroupLists → Error → Type 0
SumsRefused number fits column groups = GroupSumsRefused fits number column groups.indices (length groups.first)

-- the parts of the sum of each group
abbrev pub HasGroupSums : {A T : Type 0} → (T → ℤ) → ColumnWith A T → List ℕ → ℕ → List ((ℤ × ℕ) × Bool) → Type 0
HasGroupSums number column indices groups sums = (g : ℕ) → g < groups → (parts : (ℤ × ℕ) × Bool)
    × (slice_get sums g ≡ Some parts) × IsGroupSum number (group_values column indices g) (length indices) parts

-- each slot has the number of its sum
abbrev pub ShowsSums : {T : Type 0} → (T → ℤ) → List ((ℤ × ℕ) × Bool) → List (Option T) → Type 0
ShowsSums {T} number sums slots = (g : ℕ) (slot : Option T) (parts : (ℤ × ℕ) × Bool) → slice_get slots g ≡ Some slot
    → slice_get sums g ≡ Some parts → option_map number slot ≡ sum_slot_of parts

-- each slot has the sum of the values of its group; `shown` is the number of a slot's value
abbrev pub ShowsGroupSums : {A S T : Type 0} → (S → ℤ) → (T → ℤ) → ColumnWith A T → List ℕ → List (Option S) → Type 0
ShowsGroupSums {A} {S} {T} shown number column indices slots = (g : ℕ) (slot : Option S) → slice_get slots g ≡ Some slot
    → option_map shown slot ≡ sum_of (map number (group_values column indices g))

-- an array of this type with the sum of each group, null if it has no valid slot; `shown` is the number of a slot's
-- value
abbrev pub SumsGroupsAs : {A S T : Type 0} → LogicalType → (S → ℤ) → (T → ℤ) → ColumnWith A T → List ℕ → ℕ → Column S
    → Type 0
SumsGroupsAs t shown number column indices groups made = GroupSlots t groups (λ g slot. option_map shown slot
    ≡ sum_of (map number (group_values column indices g))) made

-- such an array of the same type and of values of the same type
abbrev pub SumsGroups : {A T : Type 0} → (T → ℤ) → ColumnWith A T → List ℕ → ℕ → Column T → Type 0
SumsGroups number column = SumsGroupsAs column.data_type number number column

-- such an array of integers, each of which is the sum itself
abbrev pub SumsGroupsWide : {A T : Type 0} → LogicalType → (T → ℤ) → ColumnWith A T → GroupLists → Column ℤ → Type 0
SumsGroupsWide t number column groups made = GroupSlots t (length groups.first) (λ g slot. slot
    ≡ sum_of (map number (group_values column groups.indices g))) made

-- ---- whole sums, of numbers that are at most 2 ^ 64 from zero

-- the sum of these values, at most n, and whether there is a value
pub record IsWholeSum {T : Type 0} (number : T → ℤ) (values : List T) (n : ℕ) (sum : ℤ × Bool) : Type 0 where
  pub total : sum.0 ≡ sum_all (map number values)
  pub some : sum.1 ≡ nat_lt 0 (length values)
  pub size : unsigned_abs (sum.0) ≤ n * 2 ^ 64

-- a sum after one more slot
abbrev pub more_in_sum : {T : Type 0} → (T → ℤ) → Option T → ℤ × Bool → ℤ × Bool
more_in_sum number shown sum = (sum.0 +ℤ number_or_zero number shown, sum.1 || is_some shown)

-- the sums after a slot of group k, whose number is at most 2 ^ 64 from zero
pub record AddsSlot {T : Type 0} (number : T → ℤ) (before : List (ℤ × Bool)) (k : ℕ) (shown : Option T)
    (after : List (ℤ × Bool)) : Type 0 where
  pub small : unsigned_abs (number_or_zero number shown) ≤ 2 ^ 64
  pub sums : (sum : ℤ × Bool) → slice_get before k ≡ Some sum
      → after ≡ slice_set before k (more_in_sum number shown sum)

-- the slots of rows, each with its group
abbrev pub slots_by_group : {T : Type 0} → List ℕ → List (Row T) → List (ℕ × Option T)
slots_by_group indices rows = zip indices (map slot rows)

-- the sum of each group among the first slots
abbrev pub SumsTo : {T : Type 0} → (T → ℤ) → List (ℕ × Option T) → ℕ → List (ℤ × Bool) → Type 0
SumsTo number pairs i sums = (g : ℕ) (sum : ℤ × Bool) → slice_get sums g ≡ Some sum
    → IsWholeSum number (values_at (take i pairs) g) i sum

-- the sum of each group among the first slots of values with a mask
abbrev pub SumsMasked : {T : Type 0} → (T → ℤ) → List ℕ → List T → List Bool → ℕ → List (ℤ × Bool) → Type 0
SumsMasked number indices values mask = SumsTo number (slots_by_group indices (rows_of values (Some mask)))

-- the number of the slot of a whole sum; none if there is no value
abbrev pub whole_slot_of : ℤ × Bool → Option ℤ
whole_slot_of sum = if sum.1 then Some (sum.0) else None

-- the error of a whole sum that does not fit
abbrev pub WholeOverflow : (ℤ → Bool) → ℤ × Bool → Error → Type 0
WholeOverflow fits sum = TotalOverflows fits (sum.0)

-- the error if whole sums do not become slots: one does not fit, or an allocation failed
abbrev pub WholeRefused : (ℤ → Bool) → List (ℤ × Bool) → Error → Type 0
WholeRefused fits sums e = (e ≡ error.OutOfMemory)
    ⊎ ((g : ℕ) × (sum : ℤ × Bool) × (slice_get sums g ≡ Some sum) × WholeOverflow fits sum e)

-- each slot has the number of its whole sum
abbrev pub ShowsWhole : {T : Type 0} → (T → ℤ) → List (ℤ × Bool) → List (Option T) → Type 0
ShowsWhole {T} number sums slots = (g : ℕ) (slot : Option T) (sum : ℤ × Bool) → slice_get slots g ≡ Some slot
    → slice_get sums g ≡ Some sum → option_map number slot ≡ whole_slot_of sum
