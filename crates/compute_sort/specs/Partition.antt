-- Ranges of equal rows.
use Rattle.std.specs.Prelude.{◌≡◌, ◌+◌, ◌-◌, ◌<◌, ◌==◌, ◌||◌, ◌++◌, ◌∷◌, [], ℕ, Bool, List, Some, drop, filter, map}
use Rattle.std.specs.Prelude.{false, get_or, length, slice_get, true}
use Rattle.std.specs.List.{range_with_len}
use Rattle.std.specs.Ordering.{is_ne}
use Rattle.std.specs.declared.cmp.Ordering.{Ordering}
use Rattle.std.specs.declared.ops.Range.{Range}
use Rattle.compute_sort.specs.declared.columns.SortColumn.{SortColumn}
use Rattle.compute_sort.specs.Columns.{columns_order, rows_count}

-- whether a row differs from the one before it; the first row does
abbrev pub begins_range : (ℕ → ℕ → Ordering) → ℕ → Bool
begins_range order i = (i == 0) || is_ne (order (i - 1) i)

-- the rows below n that differ from the one before each
abbrev pub range_starts : (ℕ → ℕ → Ordering) → ℕ → List ℕ
range_starts order n = filter (begins_range order) (range_with_len 0 n)

-- each row below n that differs from the one before it begins a range, which ends where the next begins, and the last
-- at n
pub record ArePartition (order : ℕ → ℕ → Ordering) (n : ℕ) (ranges : List (Range ℕ)) : Type 0 where
  pub starts : map (λ range. range.start) ranges ≡ range_starts order n
  pub ends : map (λ range. range.end) ranges ≡ drop 1 (range_starts order n ++ n ∷ [])

-- each row that differs from the one before it begins a range of these rows
abbrev pub ArePartitionOfRows : List SortColumn → List (Range ℕ) → Type 0
ArePartitionOfRows columns ranges = ArePartition (columns_order columns) (rows_count columns) ranges

-- these are, for each of n rows but the first, whether it differs from the one before it
pub record AreChanges (order : ℕ → ℕ → Ordering) (n : ℕ) (differs : List Bool) : Type 0 where
  pub count : length differs ≡ n
  pub each : (i : ℕ) → 0 < i → i < n → get_or differs i false ≡ is_ne (order (i - 1) i)

-- it is noted as well, for each row but the first, whether it differs from the one before it
pub record NotesChanges (order : ℕ → ℕ → Ordering) (old new : List Bool) : Type 0 where
  pub count : length new ≡ length old
  pub each : (i : ℕ) → 0 < i → i < length old → get_or new i false ≡ (get_or old i false || is_ne (order (i - 1) i))

-- the one range from a row up to another
abbrev pub one_range : ℕ → ℕ → List (Range ℕ)
one_range start end = record { start = start; end = end } ∷ []

-- a row in a range is equal to the one before it, unless it is the first there
abbrev pub AreEqualWithin : (ℕ → ℕ → Ordering) → List (Range ℕ) → Type 0
AreEqualWithin order ranges = (k : ℕ) (range : Range ℕ) (i : ℕ) → slice_get ranges k ≡ Some range → range.start < i
    → i < range.end → is_ne (order (i - 1) i) ≡ false

-- the first row of a range differs from the row before it, if there is one
abbrev pub DifferAtStarts : (ℕ → ℕ → Ordering) → List (Range ℕ) → Type 0
DifferAtStarts order ranges = (k : ℕ) (range : Range ℕ) → slice_get ranges k ≡ Some range → 0 < range.start
    → is_ne (order (range.start - 1) range.start) ≡ true

-- each range ends where the next begins
abbrev pub FollowEachOther : List (Range ℕ) → Type 0
FollowEachOther ranges = (k : ℕ) (range next : Range ℕ) → slice_get ranges k ≡ Some range
    → slice_get ranges (k + 1) ≡ Some next → range.end ≡ next.start

-- a fact of any ranges of equal rows: of the order of two rows, the number of rows, and the ranges
abbrev pub ForPartitions : ((ℕ → ℕ → Ordering) → ℕ → List (Range ℕ) → Type 0) → Type 0
ForPartitions P = (order : ℕ → ℕ → Ordering) (n : ℕ) (ranges : List (Range ℕ)) → ArePartition order n ranges
    → P order n ranges
