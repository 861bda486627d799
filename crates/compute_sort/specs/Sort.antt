-- The order of slots, and the indexes that sort them.
use Rattle.std.specs.Prelude.{◌≡◌, ◌≤◌, ℕ, Bool, true, false, List, Option, Some, None, length, map, slice_get, take}
use Rattle.std.specs.Prelude.{if◌then◌else◌}
use Rattle.std.specs.List.{range_with_len}
use Rattle.std.specs.List.Sorted.{IsPermutation, IsSorted}
use Rattle.std.specs.Ordering.{is_lt, nat_cmp, ordering_then}
use Rattle.std.specs.declared.cmp.Ordering.{Ordering}
use Rattle.std.specs.declared.cmp.Ordering.TheVariants.{Less, Equal, Greater}
-- the slot at an index; past the end a null
pub use Rattle.arrow_types.specs.ListText.{slot_at}
use Rattle.arrow_types.specs.Types.{plain, uint64}
use Rattle.arrow_column.specs.Column.{Column, ColumnWith, column_of_parts, slots_of, stored_values}
use Rattle.compute_sort.specs.declared.options.SortOptions.{SortOptions}

-- the order of two slots: values by their order, and nulls before or after all values
abbrev pub nulls_order : {X : Type 0} → Bool → (X → X → Ordering) → Option X → Option X → Ordering
nulls_order nulls_first cmp (Some x) (Some y) = cmp x y
nulls_order nulls_first cmp (Some x) None = if nulls_first then Greater else Less
nulls_order nulls_first cmp None (Some y) = if nulls_first then Less else Greater
nulls_order nulls_first cmp None None = Equal

-- the order of two slots by options: `descending` reverses the order of values, but not the place of nulls
abbrev pub slot_order : {X : Type 0} → SortOptions → (X → X → Ordering) → Option X → Option X → Ordering
slot_order options cmp =
    nulls_order options.nulls_first (λ x y. if options.descending then cmp y x else cmp x y)

-- the options of a column without any: ascending, nulls first
abbrev pub default_options : SortOptions
default_options = record { descending = false; nulls_first = true }

-- the order of two indexes: that of their slots, and for equal slots that of the indexes
abbrev pub index_order : {X : Type 0} → (Option X → Option X → Ordering) → List (Option X) → ℕ → ℕ → Ordering
index_order order slots i j = ordering_then (order (slot_at slots i) (slot_at slots j)) (nat_cmp i j)

-- these are all indexes below n, each once, sorted in this order
pub record SortsIndexes (order : ℕ → ℕ → Ordering) (n : ℕ) (indexes : List ℕ) : Type 0 where
  pub permutation : IsPermutation (range_with_len 0 n) indexes
  pub sorted : IsSorted order indexes

-- the first of a list up to a limit, or all
abbrev pub up_to : {X : Type 0} → Option ℕ → List X → List X
up_to None xs = xs
up_to (Some limit) xs = take limit xs

-- these are the sorted indexes below n, up to a limit
abbrev pub AreSorted : (ℕ → ℕ → Ordering) → ℕ → Option ℕ → List ℕ → Type 0
AreSorted order n limit keys = (all : List ℕ) × SortsIndexes order n all × (keys ≡ up_to limit all)

-- these are the indexes of all slots, sorted by the order of the slots, and for equal slots by the order of the indexes
abbrev pub SortsSlots : {X : Type 0} → SortOptions → (X → X → Ordering) → List (Option X) → List ℕ → Type 0
SortsSlots options cmp slots indexes = SortsIndexes (index_order (slot_order options cmp) slots) (length slots) indexes

-- these are the sorted indexes of slots, up to a limit
abbrev pub AreSortedSlots : {X : Type 0} → SortOptions → (X → X → Ordering) → List (Option X) → Option ℕ → List ℕ → Type 0
AreSortedSlots options cmp slots = AreSorted (index_order (slot_order options cmp) slots) (length slots)

-- these are indexes below n, each at most once: all of them in some order, up to a limit
abbrev pub PickOnce : ℕ → List ℕ → Type 0
PickOnce n keys = (all : List ℕ) × (limit : Option ℕ) × IsPermutation (range_with_len 0 n) all × (keys ≡ up_to limit all)

-- the result is what a take makes of the sorted indexes below n, up to a limit
abbrev pub TakesSorted : {V : Type 0} → (ℕ → ℕ → Ordering) → ℕ → Option ℕ → (List ℕ → V) → V → Type 0
TakesSorted order n limit take_at made = (keys : List ℕ) × AreSorted order n limit keys × (made ≡ take_at keys)

-- an array of unsigned 64-bit numbers without a mask: the sorted indexes below n, up to a limit
pub record HoldsSorted (order : ℕ → ℕ → Ordering) (n : ℕ) (limit : Option ℕ) (made : Column ℕ) : Type 0 where
  pub keys : AreSorted order n limit (stored_values made)
  pub unmasked : made ≡ column_of_parts (plain uint64) (stored_values made) None

-- an array of the sorted indexes of slots, up to a limit
abbrev pub HoldsSortedSlots : {X : Type 0} → SortOptions → (X → X → Ordering) → List (Option X) → Option ℕ → Column ℕ
    → Type 0
HoldsSortedSlots options cmp slots limit made =
    HoldsSorted (index_order (slot_order options cmp) slots) (length slots) limit made

-- the result is what a take makes of the sorted indexes of slots, up to a limit
abbrev pub TakesSortedSlots : {X V : Type 0} → SortOptions → (X → X → Ordering) → List (Option X) → Option ℕ
    → (List ℕ → V) → V → Type 0
TakesSortedSlots options cmp slots limit take_at made =
    TakesSorted (index_order (slot_order options cmp) slots) (length slots) limit take_at made

-- these are the slots at the sorted indexes of slots, up to a limit
abbrev pub HasSortedSlots : {X : Type 0} → SortOptions → (X → X → Ordering) → List (Option X) → Option ℕ
    → List (Option X) → Type 0
HasSortedSlots options cmp slots limit shown = (keys : List ℕ) × AreSortedSlots options cmp slots limit keys
    × (shown ≡ map (slot_at slots) keys)

-- an array has the slots of another, sorted, up to a limit
abbrev pub IsSortedColumn : {A B X : Type 0} → SortOptions → (X → X → Ordering) → ColumnWith A X → Option ℕ
    → ColumnWith B X → Type 0
IsSortedColumn options cmp array limit made = HasSortedSlots options cmp (slots_of array) limit (slots_of made)

-- an array has the slots of another at these indexes
abbrev pub HasSlotsAt : {A B X : Type 0} → ColumnWith A X → List ℕ → ColumnWith B X → Type 0
HasSlotsAt array keys made = slots_of made ≡ map (slot_at (slots_of array)) keys

-- of any two slots, the later does not come before the earlier
abbrev pub Ascend : {X : Type 0} → SortOptions → (X → X → Ordering) → List (Option X) → Type 0
Ascend {X} options cmp shown = (a b : ℕ) (x y : Option X) → a ≤ b → slice_get shown a ≡ Some x
    → slice_get shown b ≡ Some y → is_lt (slot_order options cmp y x) ≡ false

-- before a null are only nulls
abbrev pub NullsComeFirst : {X : Type 0} → List (Option X) → Type 0
NullsComeFirst {X} shown = (a b : ℕ) (x : Option X) → a ≤ b → slice_get shown a ≡ Some x
    → slice_get shown b ≡ Some None → x ≡ None

-- after a null are only nulls
abbrev pub NullsComeLast : {X : Type 0} → List (Option X) → Type 0
NullsComeLast {X} shown = (a b : ℕ) (y : Option X) → a ≤ b → slice_get shown a ≡ Some None
    → slice_get shown b ≡ Some y → y ≡ None

-- of two indexes of equal slots, the lesser comes first
abbrev pub KeepOrder : {X : Type 0} → SortOptions → (X → X → Ordering) → List (Option X) → List ℕ → Type 0
KeepOrder options cmp slots keys = (a b i j : ℕ) → a ≤ b → slice_get keys a ≡ Some i → slice_get keys b ≡ Some j
    → slot_order options cmp (slot_at slots i) (slot_at slots j) ≡ Equal → i ≤ j

-- a fact of any sort: of its options, the order of values, the slots, the limit and the sorted slots
abbrev pub ForSorts : (X : Type 0) → (SortOptions → (X → X → Ordering) → List (Option X) → Option ℕ → List (Option X)
    → Type 0) → Type 0
ForSorts X P = (options : SortOptions) (cmp : X → X → Ordering) (slots : List (Option X)) (limit : Option ℕ)
    (shown : List (Option X)) → HasSortedSlots options cmp slots limit shown → P options cmp slots limit shown

-- a fact of any indexes that sort: of the options, the order of values, the slots, the limit and the indexes
abbrev pub ForSortedIndexes : (X : Type 0) → (SortOptions → (X → X → Ordering) → List (Option X) → Option ℕ → List ℕ
    → Type 0) → Type 0
ForSortedIndexes X P = (options : SortOptions) (cmp : X → X → Ordering) (slots : List (Option X)) (limit : Option ℕ)
    (keys : List ℕ) → AreSortedSlots options cmp slots limit keys → P options cmp slots limit keys
