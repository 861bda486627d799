-- Groups of equal slots of an array of any kind, and aggregates of the slots of each group.
use Rattle.std.specs.Prelude.{◌≡◌, ◌<◌, ℕ, ℤ, All, Bool, true, false, not, List, find, length, slice_get}
use Rattle.std.specs.Prelude.{Option, Some, None}
use Rattle.std.specs.List.{range_with_len}
use Rattle.std.specs.Ordering.{bool_cmp, int_cmp}
use Rattle.std.specs.Int.{w64}
use Rattle.std.specs.declared.cmp.Ordering.{Ordering}
use Rattle.dethrugn.specs.Aggregates.{sum_all, text_cmp}
use Rattle.dethrugn.specs.Column.{Column, ColumnWith, slots_of}
use Rattle.dethrugn.specs.Error.{Error}
use Rattle.dethrugn.specs.Error.TheVariants as error
use Rattle.dethrugn.specs.Grouping.{GroupLists, IsGrouping}
use Rattle.dethrugn.specs.Groups.{AggregatesGroups, IsGreatestSlot, IsLeastSlot, group_values}
use Rattle.dethrugn.specs.NativeArithmetics.{fits_signed}
use Rattle.dethrugn.specs.Sort.{PickOnce}
use Rattle.dethrugn.specs.GroupSums.{GroupsRefused, SumsGroups}
use Rattle.example_record_batch.specs.declared.any.AnyArray.{AnyArray}
use Rattle.example_record_batch.specs.declared.any.AnyArray.TheVariants.{Int64, Boolean, Binary, Utf8}
use Rattle.example_record_batch.specs.declared.any.group.Aggregate.{Aggregate}
use Rattle.example_record_batch.specs.declared.any.group.Aggregate.TheVariants.{Sum, Min, Max}

-- the groups of equal slots: the first slot of each, in order, and the number of each slot's group
abbrev pub AnyGrouping : AnyArray → List ℕ → List ℕ → Type 0
AnyGrouping (Int64 column) first numbers = IsGrouping (slots_of column) first numbers
AnyGrouping (Boolean column) first numbers = IsGrouping (slots_of column) first numbers
AnyGrouping (Binary column) first numbers = IsGrouping (slots_of column) first numbers
AnyGrouping (Utf8 column) first numbers = IsGrouping (slots_of column) first numbers

-- groups of so many rows: the number of a group for each row, and a first row for each group, there once
pub record NumbersRows (rows : ℕ) (first numbers : List ℕ) : Type 0 where
  pub count : length numbers ≡ rows
  pub within : All (λ g. g < length first) numbers
  pub once : PickOnce rows first

-- whether an array has an aggregate: only numbers have a sum
abbrev pub has_aggregate : Aggregate → AnyArray → Bool
has_aggregate Sum (Int64 column) = true
has_aggregate Sum _ = false
has_aggregate _ _ = true

-- an array of the least, or of the greatest, of the valid slots of each group, null if there is none
abbrev pub LeastOfGroups : {A X : Type 0} → (X → X → Ordering) → ColumnWith A X → List ℕ → ℕ → ColumnWith A X → Type 0
LeastOfGroups cmp = AggregatesGroups (IsLeastSlot cmp)

abbrev pub GreatestOfGroups : {A X : Type 0} → (X → X → Ordering) → ColumnWith A X → List ℕ → ℕ → ColumnWith A X → Type 0
GreatestOfGroups cmp = AggregatesGroups (IsGreatestSlot cmp)

-- an array of the aggregate of the slots of each group, null if no slot of the group is valid
abbrev pub IsAggregate : Aggregate → AnyArray → List ℕ → ℕ → AnyArray → Type 0
IsAggregate Sum (Int64 column) numbers groups (Int64 made) = SumsGroups (λ value. value) column numbers groups made
IsAggregate Min (Int64 column) numbers groups (Int64 made) = LeastOfGroups int_cmp column numbers groups made
IsAggregate Min (Boolean column) numbers groups (Boolean made) = LeastOfGroups bool_cmp column numbers groups made
IsAggregate Min (Binary column) numbers groups (Binary made) = LeastOfGroups text_cmp column numbers groups made
IsAggregate Min (Utf8 column) numbers groups (Utf8 made) = LeastOfGroups text_cmp column numbers groups made
IsAggregate Max (Int64 column) numbers groups (Int64 made) = GreatestOfGroups int_cmp column numbers groups made
IsAggregate Max (Boolean column) numbers groups (Boolean made) = GreatestOfGroups bool_cmp column numbers groups made
IsAggregate Max (Binary column) numbers groups (Binary made) = GreatestOfGroups text_cmp column numbers groups made
IsAggregate Max (Utf8 column) numbers groups (Utf8 made) = GreatestOfGroups text_cmp column numbers groups made
IsAggregate _ _ numbers groups _ = ⊥

-- the same of groups
abbrev pub AggregatesAny : Aggregate → AnyArray → GroupLists → AnyArray → Type 0
AggregatesAny aggregate array groups made = IsAggregate aggregate array groups.indices (length groups.first) made

-- the sum of each group, however great
abbrev pub HasSums : Column ℤ → List ℕ → ℕ → List ℤ → Type 0
HasSums column numbers groups sums = (g : ℕ) → g < groups
    → slice_get sums g ≡ Some (sum_all (group_values column numbers g))

-- the first group whose sum does not fit in 64 bits
abbrev pub first_overflow : Column ℤ → List ℕ → ℕ → Option ℕ
first_overflow column numbers groups =
    find (λ g. not (fits_signed w64 (sum_all (group_values column numbers g)))) (range_with_len 0 groups)

-- the same of an array of any kind, of which only one of numbers has sums
abbrev pub overflowing_group : AnyArray → List ℕ → ℕ → Option ℕ
overflowing_group (Int64 column) numbers groups = first_overflow column numbers groups
overflowing_group _ numbers groups = None

-- why groups have no aggregate: the sum of one does not fit in 64 bits, or an allocation failed
abbrev pub AggregateFails : Aggregate → AnyArray → List ℕ → ℕ → Error → Type 0
AggregateFails Sum (Int64 column) numbers groups e =
    GroupsRefused (fits_signed w64) groups (group_values column numbers) e
AggregateFails _ _ numbers groups e = e ≡ error.OutOfMemory

-- the same of groups
abbrev pub FailsAny : Aggregate → AnyArray → GroupLists → Error → Type 0
FailsAny aggregate array groups e = AggregateFails aggregate array groups.indices (length groups.first) e
