-- What the steps of a sort make. Only private functions cite this.
use Rattle.std.specs.Prelude.{◌≡◌, ◌+◌, ◌-◌, ◌<◌, ◌≤◌, ℕ, Bool, false, not, true, if◌then◌else◌, Option, Some, None, is_some}
use Rattle.std.specs.Prelude.{List, [], ◌∷◌, ◌++◌, All, length, map, filter, slice_index_or, take}
use Rattle.std.specs.List.{range_with_len}
use Rattle.std.specs.Cmp.{IsTotalOrder}
use Rattle.std.specs.List.Sorted.{IsPermutation, IsSorted}
use Rattle.std.specs.Ordering.{is_lt, nat_cmp, on, ordering_then}
use Rattle.std.specs.declared.cmp.Ordering.{Ordering}
use Rattle.arrow_column.specs.Column.{ColumnWith, slots_of}
use Rattle.compute_sort.specs.declared.indexed_values.IndexedValues.{IndexedValues}
use Rattle.compute_sort.specs.Sort.{slot_at}

-- the order of two pairs, a value and its index each: that of the values, and of equal values that of the indexes
abbrev pub pair_order : {V : Type 0} → (V → V → Ordering) → V × ℕ → V × ℕ → Ordering
pair_order cmp x y = ordering_then (cmp x.0 y.0) (nat_cmp x.1 y.1)

-- pairs are sorted by their values, and stay in any order of their indexes in which they were, where these are equal
abbrev pub SortsPairs : {V : Type 0} → (V → V → Ordering) → List (V × ℕ) → List (V × ℕ) → Type 0
SortsPairs cmp old new = (rest : ℕ → ℕ → Ordering) → IsTotalOrder rest → IsSorted (λ x y. rest x.1 y.1) old
    → IsSorted (λ x y. ordering_then (cmp x.0 y.0) (rest x.1 y.1)) new

-- an order, or its reverse if descending
abbrev pub flip_if : {V : Type 0} → Bool → (V → V → Ordering) → V → V → Ordering
flip_if descending cmp x y = if descending then cmp y x else cmp x y

-- indexes are sorted by an order, and stay in any order in which they were, where it calls them equal
pub record SortsStably (order : ℕ → ℕ → Ordering) (old new : List ℕ) : Type 0 where
  pub permutation : IsPermutation old new
  pub sorted : (rest : ℕ → ℕ → Ordering) → IsTotalOrder rest → IsSorted rest old
      → IsSorted (λ i j. ordering_then (order i j) (rest i j)) new

-- whether the slot at an index is valid, and whether it is null
abbrev pub is_valid_at : {X : Type 0} → List (Option X) → ℕ → Bool
is_valid_at slots i = is_some (slot_at slots i)

abbrev pub is_null_at : {X : Type 0} → List (Option X) → ℕ → Bool
is_null_at slots i = not (is_valid_at slots i)

-- these are the values of the slots at some indexes that are valid, with their indexes, and the indexes of the others
pub record SplitsList {V X : Type 0} (seen : V → X) (slots : List (Option X)) (indexes : List ℕ) (values : List (V × ℕ))
    (nulls : List ℕ) : Type 0 where
  pub shown : All (λ element. slot_at slots element.1 ≡ Some (seen element.0)) values
  pub valid : map (λ element. element.1) values ≡ filter (is_valid_at slots) indexes
  pub null : nulls ≡ filter (is_null_at slots) indexes

-- these are the values of the slots of a column at some indexes that are valid, and the indexes of the others
abbrev pub SplitsColumn : {V A X : Type 0} → (V → X) → ColumnWith A X → List ℕ → IndexedValues V → Type 0
SplitsColumn seen column indexes split = SplitsList seen (slots_of column) indexes split.values.items split.nulls.items

-- these are the values of the valid slots below n with their indexes, and the indexes of the null slots below n
abbrev pub SplitsSlots : {V X : Type 0} → (V → X) → List (Option X) → ℕ → List (V × ℕ) → List ℕ → Type 0
SplitsSlots seen slots n values nulls = SplitsList seen slots (range_with_len 0 n) values nulls

-- these are the values of all valid slots with their indexes, and the indexes of all null slots
abbrev pub SplitsAll : {V X : Type 0} → (V → X) → List (Option X) → List (V × ℕ) → List ℕ → Type 0
SplitsAll seen slots values nulls = SplitsSlots seen slots (length slots) values nulls

-- a slot and its index are appended to the values or to the nulls
abbrev pub PushesPair : {V : Type 0} → Option V → ℕ → List (V × ℕ) → List ℕ → List (V × ℕ) → List ℕ → Type 0
PushesPair None i values nulls values' nulls' = (values' ≡ values) × (nulls' ≡ nulls ++ i ∷ [])
PushesPair (Some value) i values nulls values' nulls' = (values' ≡ values ++ (value, i) ∷ []) × (nulls' ≡ nulls)

-- the indexes of nulls before or after the others
abbrev pub first_nulls : Bool → List ℕ → List ℕ → List ℕ
first_nulls nulls_first nulls others = if nulls_first then nulls ++ others else others ++ nulls

-- the order of two pairs by an order of values, which is reversed if descending
abbrev pub pair_order_by : {V : Type 0} → Bool → (V → V → Ordering) → V × ℕ → V × ℕ → Ordering
pair_order_by descending cmp = pair_order (flip_if descending cmp)

-- the same by an order of what is seen of values
abbrev pub seen_order : {V X : Type 0} → Bool → (V → X) → (X → X → Ordering) → V × ℕ → V × ℕ → Ordering
seen_order descending seen cmp = pair_order_by descending (on seen cmp)

-- there are `limit` first elements: none of them comes after the last, and none of the rest before it
pub record AreFirst {E : Type 0} (order : E → E → Ordering) (limit : ℕ) (first rest : List E) : Type 0 where
  pub others : List E
  pub last : E
  pub is : first ≡ others ++ last ∷ []
  pub count : length first ≡ limit
  pub low : All (λ element. is_lt (order last element) ≡ false) others
  pub high : All (λ element. is_lt (order element last) ≡ false) rest

-- these are the first `limit` of all elements: the last of them at the end, and the others in any order
pub record SelectsFirst {E : Type 0} (order : E → E → Ordering) (limit : ℕ) (all first : List E) : Type 0 where
  pub rest : List E
  pub permutation : IsPermutation all (first ++ rest)
  pub are : AreFirst order limit first rest

-- the kept elements begin with `limit` of which none comes after the last, and none that isn't kept comes before it
pub record BeginsWithFirst {E : Type 0} (order : E → E → Ordering) (limit : ℕ) (all kept : List E) : Type 0 where
  pub first : List E
  pub more : List E
  pub rest : List E
  pub is : kept ≡ first ++ more
  pub permutation : IsPermutation all (kept ++ rest)
  pub are : AreFirst order limit first rest

-- the first `limit` of all elements are kept: all elements while they are fewer
pub record KeepsFirst {E : Type 0} (order : E → E → Ordering) (limit : ℕ) (all kept : List E) : Type 0 where
  pub few : length kept < limit → kept ≡ all
  pub many : limit ≤ length kept → BeginsWithFirst order limit all kept

-- if the first `limit` of some elements were kept before, those of these elements and one more are kept now
abbrev pub AppendsToFirst : {E : Type 0} → (E → E → Ordering) → ℕ → E → List E → List E → Type 0
AppendsToFirst {E} order limit element old new = (all : List E) → KeepsFirst order limit all old
    → KeepsFirst order limit (all ++ element ∷ []) new

-- there are `limit` kept elements, and this element doesn't come before the last of the first `limit`
pub record IsPastFirst {E : Type 0} (order : E → E → Ordering) (limit : ℕ) (kept : List E) (element : E) : Type 0 where
  pub enough : limit ≤ length kept
  pub last : E
  pub at : last ≡ slice_index_or kept (limit - 1) last
  pub past : is_lt (order element last) ≡ false

-- if the first `limit` of some pairs were kept before, those of these pairs and a valid slot with its index are
-- kept now; the index of a null is appended to the nulls
abbrev pub OffersSlot : {V : Type 0} → (V × ℕ → V × ℕ → Ordering) → ℕ → Option V → ℕ → IndexedValues V
    → IndexedValues V → Type 0
OffersSlot {V} order limit slot i old new = (all : List (V × ℕ)) → KeepsFirst order limit all old.values.items
    → (all' : List (V × ℕ)) × PushesPair slot i all old.nulls.items all' new.nulls.items
    × KeepsFirst order limit all' new.values.items

-- the first `limit` values of the valid slots below n are kept, and these are the indexes of the null slots below n
pub record KeepsSlots {V X : Type 0} (seen : V → X) (order : V × ℕ → V × ℕ → Ordering) (limit : ℕ)
    (slots : List (Option X)) (n : ℕ) (kept : List (V × ℕ)) (nulls : List ℕ) : Type 0 where
  pub all : List (V × ℕ)
  pub split : SplitsSlots seen slots n all nulls
  pub keeps : KeepsFirst order limit all kept

-- the first `limit` values of all valid slots are kept, and these are the indexes of all null slots
abbrev pub KeepsAll : {V X : Type 0} → (V → X) → (V × ℕ → V × ℕ → Ordering) → ℕ → List (Option X)
    → IndexedValues V → Type 0
KeepsAll seen order limit slots kept =
    KeepsSlots seen order limit slots (length slots) kept.values.items kept.nulls.items

-- these are the first `limit` of all elements, sorted
pub record SortsFirst {E : Type 0} (order : E → E → Ordering) (limit : ℕ) (all first : List E) : Type 0 where
  pub whole : List E
  pub permutation : IsPermutation all whole
  pub sorted : IsSorted order whole
  pub is : first ≡ take limit whole

-- these are the indexes of the first `limit` of n rows, sorted
abbrev pub SortsFirstRows : (ℕ → ℕ → Ordering) → ℕ → ℕ → List ℕ → Type 0
SortsFirstRows order n limit first = SortsFirst order limit (range_with_len 0 n) first

-- these are the first `limit` values of the valid slots, sorted, with their indexes, and the indexes of the null slots
pub record SortsFirstSlots {V X : Type 0} (seen : V → X) (order : V × ℕ → V × ℕ → Ordering) (limit : ℕ)
    (slots : List (Option X)) (first : IndexedValues V) : Type 0 where
  pub all : List (V × ℕ)
  pub split : SplitsAll seen slots all first.nulls.items
  pub sorts : SortsFirst order limit all first.values.items

-- none of the rows below n is less than the one before it
abbrev pub AreInOrder : (ℕ → ℕ → Ordering) → ℕ → Type 0
AreInOrder order n = (k : ℕ) → k + 1 < n → is_lt (order (k + 1) k) ≡ false

-- each of the rows below n is less than the one before it
abbrev pub AreInReverse : (ℕ → ℕ → Ordering) → ℕ → Type 0
AreInReverse order n = (k : ℕ) → k + 1 < n → is_lt (order (k + 1) k) ≡ true
