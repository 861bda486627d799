-- The order of the rows of several columns.
use Rattle.std.specs.Prelude.{◌≡◌, ◌<◌, ℕ, List, [], ◌∷◌, All, Option, Some, length, map, pos, unwrap_or}
use Rattle.std.specs.Cmp.Lexicographic.{slice_cmp}
use Rattle.std.specs.Ordering.{bool_cmp, int_cmp, nat_cmp, ordering_then}
use Rattle.std.specs.declared.cmp.Ordering.{Ordering}
use Rattle.std.specs.declared.cmp.Ordering.TheVariants.{Equal}
use Rattle.arrow_bytes.specs.Pieces.{nothing_around}
use Rattle.arrow_bytes.specs.Selection.{taken}
use Rattle.arrow_column.specs.Column.{ColumnWith, slots_of}
use Rattle.compute_sort.specs.declared.columns.SortColumn.{SortColumn}
use Rattle.compute_sort.specs.declared.columns.SortValues.{SortValues}
use Rattle.compute_sort.specs.declared.columns.SortValues.TheVariants as values
use Rattle.compute_sort.specs.declared.columns.SortedValues.{SortedValues}
use Rattle.compute_sort.specs.declared.columns.SortedValues.TheVariants as sorted
use Rattle.compute_sort.specs.declared.options.SortOptions.{SortOptions}
use Rattle.compute_sort.specs.IndexedValues.{AreInOrder, AreInReverse, SortsStably}
use Rattle.compute_sort.specs.Sort.{AreSorted, TakesSorted, default_options, slot_at, slot_order}

-- the order of the slots of a column at two indexes
abbrev pub order_at : {A X : Type 0} → (X → X → Ordering) → ColumnWith A X → SortOptions → ℕ → ℕ → Ordering
order_at cmp column options i j = slot_order options cmp (slot_at (slots_of column) i) (slot_at (slots_of column) j)

-- the order of the slots of an array of any kind at two indexes: numbers by their own order, false before true, bytes
-- and text by their bytes
abbrev pub values_order : SortValues → SortOptions → ℕ → ℕ → Ordering
values_order (values.Int8 array) = order_at int_cmp array.now
values_order (values.Int16 array) = order_at int_cmp array.now
values_order (values.Int32 array) = order_at int_cmp array.now
values_order (values.Int64 array) = order_at int_cmp array.now
values_order (values.Int128 array) = order_at int_cmp array.now
values_order (values.UInt8 array) = order_at nat_cmp array.now
values_order (values.UInt16 array) = order_at nat_cmp array.now
values_order (values.UInt32 array) = order_at nat_cmp array.now
values_order (values.UInt64 array) = order_at nat_cmp array.now
values_order (values.Boolean array) = order_at bool_cmp array.now
values_order (values.Binary array) = order_at (slice_cmp nat_cmp) array.now
values_order (values.LargeBinary array) = order_at (slice_cmp nat_cmp) array.now
values_order (values.Utf8 array) = order_at (slice_cmp nat_cmp) array.now
values_order (values.LargeUtf8 array) = order_at (slice_cmp nat_cmp) array.now

-- the number of slots of an array of any kind
abbrev pub values_count : SortValues → ℕ
values_count (values.Int8 array) = length array.now.rows
values_count (values.Int16 array) = length array.now.rows
values_count (values.Int32 array) = length array.now.rows
values_count (values.Int64 array) = length array.now.rows
values_count (values.Int128 array) = length array.now.rows
values_count (values.UInt8 array) = length array.now.rows
values_count (values.UInt16 array) = length array.now.rows
values_count (values.UInt32 array) = length array.now.rows
values_count (values.UInt64 array) = length array.now.rows
values_count (values.Boolean array) = length array.now.rows
values_count (values.Binary array) = length array.now.rows
values_count (values.LargeBinary array) = length array.now.rows
values_count (values.Utf8 array) = length array.now.rows
values_count (values.LargeUtf8 array) = length array.now.rows

-- the order of two rows: the first column in which they differ decides
abbrev pub columns_order : List SortColumn → ℕ → ℕ → Ordering
columns_order [] i j = Equal
columns_order (column ∷ columns) i j =
    ordering_then (values_order column.values (unwrap_or column.options default_options) i j)
    (columns_order columns i j)

-- an order of rows, and of equal rows that of their indexes
abbrev pub then_index : (ℕ → ℕ → Ordering) → ℕ → ℕ → Ordering
then_index order i j = ordering_then (order i j) (nat_cmp i j)

-- the order of two rows, and of equal rows that of their indexes
abbrev pub rows_order : List SortColumn → ℕ → ℕ → Ordering
rows_order columns = then_index (columns_order columns)

-- the order of two rows, by that of the first column and by the others
abbrev pub rows_by : (ℕ → ℕ → Ordering) → List SortColumn → ℕ → ℕ → Ordering
rows_by first rest i j = ordering_then (first i j) (columns_order rest i j)

-- none of the slots of a column is less than the one before it, and each is
abbrev pub IsInOrder : {A X : Type 0} → (X → X → Ordering) → ColumnWith A X → SortOptions → Type 0
IsInOrder cmp column options = AreInOrder (order_at cmp column options) (length column.rows)

abbrev pub IsInReverse : {A X : Type 0} → (X → X → Ordering) → ColumnWith A X → SortOptions → Type 0
IsInReverse cmp column options = AreInReverse (order_at cmp column options) (length column.rows)

-- indexes are sorted by the slots there, and stay in any order in which they were, where slots are equal
abbrev pub SortsAt : {A X : Type 0} → (X → X → Ordering) → ColumnWith A X → SortOptions → List ℕ → List ℕ → Type 0
SortsAt cmp column options old new = SortsStably (order_at cmp column options) old new

-- these are the first sorted indexes of the rows, by the slots of a column and by other columns
abbrev pub Selects : {A X : Type 0} → (X → X → Ordering) → ColumnWith A X → SortOptions → List SortColumn → ℕ → List ℕ
    → Type 0
Selects cmp column options rest limit keys =
    AreSorted (then_index (rows_by (order_at cmp column options) rest)) (length column.rows) (Some limit) keys

-- the same by the slots of an array of any kind
abbrev pub SelectsRows : SortValues → SortOptions → List SortColumn → ℕ → List ℕ → Type 0
SelectsRows values options rest limit keys =
    AreSorted (then_index (rows_by (values_order values options) rest)) (values_count values) (Some limit) keys

-- the number of rows: the slots of the first column
abbrev pub rows_count : List SortColumn → ℕ
rows_count [] = 0
rows_count (column ∷ columns) = values_count column.values

-- there is a column, and all have equally many slots
abbrev pub AreColumns : List SortColumn → Type 0
AreColumns columns = (0 < length columns) × All (λ column. values_count column.values ≡ rows_count columns) columns

-- the array of the slots at indexes
abbrev pub slots_at : SortValues → List ℕ → SortedValues
slots_at (values.Int8 array) keys = sorted.Int8 (taken tt (λ key. pos key) array.now keys)
slots_at (values.Int16 array) keys = sorted.Int16 (taken tt (λ key. pos key) array.now keys)
slots_at (values.Int32 array) keys = sorted.Int32 (taken tt (λ key. pos key) array.now keys)
slots_at (values.Int64 array) keys = sorted.Int64 (taken tt (λ key. pos key) array.now keys)
slots_at (values.Int128 array) keys = sorted.Int128 (taken tt (λ key. pos key) array.now keys)
slots_at (values.UInt8 array) keys = sorted.UInt8 (taken tt (λ key. pos key) array.now keys)
slots_at (values.UInt16 array) keys = sorted.UInt16 (taken tt (λ key. pos key) array.now keys)
slots_at (values.UInt32 array) keys = sorted.UInt32 (taken tt (λ key. pos key) array.now keys)
slots_at (values.UInt64 array) keys = sorted.UInt64 (taken tt (λ key. pos key) array.now keys)
slots_at (values.Boolean array) keys = sorted.Boolean (taken tt (λ key. pos key) array.now keys)
slots_at (values.Binary array) keys = sorted.Binary (taken nothing_around (λ key. pos key) array.now keys)
slots_at (values.LargeBinary array) keys = sorted.LargeBinary (taken nothing_around (λ key. pos key) array.now keys)
slots_at (values.Utf8 array) keys = sorted.Utf8 (taken nothing_around (λ key. pos key) array.now keys)
slots_at (values.LargeUtf8 array) keys = sorted.LargeUtf8 (taken nothing_around (λ key. pos key) array.now keys)

-- the array of the slots at indexes of each column
abbrev pub columns_at : List SortColumn → List ℕ → List SortedValues
columns_at columns keys = map (λ column. slots_at column.values keys) columns

-- these are the sorted indexes of rows, up to a limit
abbrev pub AreSortedRows : List SortColumn → Option ℕ → List ℕ → Type 0
AreSortedRows columns limit keys = AreSorted (rows_order columns) (rows_count columns) limit keys

-- these are the columns with their slots at the sorted indexes of rows, up to a limit
abbrev pub AreSortedColumns : List SortColumn → Option ℕ → List SortedValues → Type 0
AreSortedColumns columns limit made =
    TakesSorted (rows_order columns) (rows_count columns) limit (columns_at columns) made
