-- The orders of slots and of rows are total.
use Rattle.std.proofs.Common.{◌≡◌, ℕ, ◌<◌, ap₂, arith, drop, sym, get_or, length, Bool, true, false, if◌then◌else◌, List, [], ◌∷◌, Option, Some, None, refl}
use Rattle.std.specs.Prelude.{unwrap_or}
use Rattle.std.specs.Cmp.{IsTotalOrder, IsStrictWeakOrder, back_total, bool_cmp_total, int_cmp_total, nat_cmp_total, on_total, then_total}
use Rattle.std.specs.Cmp.Lexicographic.{nat_list_cmp_total, slice_cmp}
use Rattle.std.specs.Ordering.{bool_cmp, int_cmp, is_lt, nat_cmp, ordering_reverse}
use Rattle.std.specs.declared.cmp.Ordering.{Ordering}
use Rattle.std.specs.declared.cmp.Ordering.TheVariants.{Less, Equal}
use Rattle.std.proofs.lemmas.List.Sorted.{ranks_by}
use Rattle.arrow_column.specs.Column.{ColumnWith, slots_of}
use Rattle.compute_sort.specs.declared.columns.SortColumn.{SortColumn}
use Rattle.compute_sort.specs.declared.columns.SortValues.{SortValues}
use Rattle.compute_sort.specs.declared.columns.SortValues.TheVariants as values
use Rattle.compute_sort.specs.declared.options.SortOptions.{SortOptions}
use Rattle.compute_sort.specs.Columns.{columns_order, order_at, rows_by, rows_count, values_count, values_order, then_index}
use Rattle.compute_sort.specs.Sort.{default_options, index_order, nulls_order, slot_at, slot_order}

module _ {X : Type 0} (cmp : X → X → Ordering) (o : IsTotalOrder cmp) where
  antisymm : (first : Bool) (x y : Option X) → nulls_order first cmp x y ≡ ordering_reverse (nulls_order first cmp y x)
  antisymm first (Some x) (Some y) = o.antisymm x y
  antisymm true (Some x) None = refl
  antisymm true None (Some y) = refl
  antisymm false (Some x) None = refl
  antisymm false None (Some y) = refl
  antisymm first None None = refl

  trans : (first : Bool) (x y z : Option X) → nulls_order first cmp x y ≡ Less → nulls_order first cmp y z ≡ Less
      → nulls_order first cmp x z ≡ Less
  trans first (Some x) (Some y) (Some z) p q = o.trans x y z p q
  trans true (Some x) (Some y) None p q = q
  trans false (Some x) (Some y) None p q = refl
  trans true (Some x) None z p q = cc
  trans false (Some x) None (Some z) p q = cc
  trans false (Some x) None None p q = refl
  trans true None (Some y) (Some z) p q = refl
  trans true None (Some y) None p q = cc
  trans false None (Some y) z p q = cc
  trans first None None z p q = q

  congr : (first : Bool) (x y z : Option X) → nulls_order first cmp x y ≡ Equal
      → nulls_order first cmp x z ≡ nulls_order first cmp y z
  congr first (Some x) (Some y) (Some z) p = o.congr x y z p
  congr first (Some x) (Some y) None p = refl
  congr true (Some x) None z p = cc
  congr false (Some x) None z p = cc
  congr true None (Some y) z p = cc
  congr false None (Some y) z p = cc
  congr first None None z p = refl

  nulls-total : (first : Bool) → IsTotalOrder (nulls_order first cmp)
  nulls-total first = record { antisymm = antisymm first; trans = trans first; congr = congr first }

  turned-total : (descending : Bool) → IsTotalOrder (λ x y. if descending then cmp y x else cmp x y)
  turned-total true = back_total o
  turned-total false = o

-- the order of slots by options, and that of indexes by it
pub slots-total : {X : Type 0} (options : SortOptions) (cmp : X → X → Ordering) → IsTotalOrder cmp
    → IsTotalOrder (slot_order options cmp)
slots-total options cmp o =
    nulls-total (λ x y. if options.descending then cmp y x else cmp x y) (turned-total cmp o options.descending)
    options.nulls_first

pub indexes-total : {X : Type 0} (order : Option X → Option X → Ordering) (slots : List (Option X))
    → IsTotalOrder order → IsTotalOrder (index_order order slots)
indexes-total order slots o = then_total (on_total (slot_at slots) o) nat_cmp_total

module _ {A X : Type 0} (cmp : X → X → Ordering) (o : IsTotalOrder cmp) (column : ColumnWith A X) (options : SortOptions)
  where
    at-total : IsTotalOrder (order_at cmp column options)
    at-total = on_total (slot_at (slots_of column)) (slots-total options cmp o)

values-total : (array : SortValues) (options : SortOptions) → IsTotalOrder (values_order array options)
values-total (values.Int8 array) options = at-total int_cmp int_cmp_total array.now options
values-total (values.Int16 array) options = at-total int_cmp int_cmp_total array.now options
values-total (values.Int32 array) options = at-total int_cmp int_cmp_total array.now options
values-total (values.Int64 array) options = at-total int_cmp int_cmp_total array.now options
values-total (values.Int128 array) options = at-total int_cmp int_cmp_total array.now options
values-total (values.UInt8 array) options = at-total nat_cmp nat_cmp_total array.now options
values-total (values.UInt16 array) options = at-total nat_cmp nat_cmp_total array.now options
values-total (values.UInt32 array) options = at-total nat_cmp nat_cmp_total array.now options
values-total (values.UInt64 array) options = at-total nat_cmp nat_cmp_total array.now options
values-total (values.Boolean array) options = at-total bool_cmp bool_cmp_total array.now options
values-total (values.Binary array) options = at-total (slice_cmp nat_cmp) nat_list_cmp_total array.now options
values-total (values.LargeBinary array) options = at-total (slice_cmp nat_cmp) nat_list_cmp_total array.now options
values-total (values.Utf8 array) options = at-total (slice_cmp nat_cmp) nat_list_cmp_total array.now options
values-total (values.LargeUtf8 array) options = at-total (slice_cmp nat_cmp) nat_list_cmp_total array.now options

pub columns-total : (columns : List SortColumn) → IsTotalOrder (columns_order columns)
columns-total [] = record { antisymm = λ x y. refl; trans = λ x y z p q. p; congr = λ x y z p. refl }
columns-total (column ∷ columns) =
    then_total (values-total column.values (unwrap_or column.options default_options)) (columns-total columns)

-- an order of rows with that of their indexes
pub indexes-strict : (order : ℕ → ℕ → Ordering) → IsTotalOrder order
    → IsStrictWeakOrder (λ i j. is_lt (then_index order i j))
indexes-strict order total = ranks_by (then_total total nat_cmp_total) (λ i. i)

-- that of the slots of an array
pub order-total : {A X : Type 0} (cmp : X → X → Ordering) → IsTotalOrder cmp → (column : ColumnWith A X)
    (options : SortOptions) → IsTotalOrder (order_at cmp column options)
order-total cmp o column options = at-total cmp o column options

-- that of rows by an array and other columns
pub rows-by_total : {A X : Type 0} (cmp : X → X → Ordering) → IsTotalOrder cmp → (column : ColumnWith A X)
    (options : SortOptions) (rest : List SortColumn) → IsTotalOrder (rows_by (order_at cmp column options) rest)
rows-by_total cmp o column options rest = then_total (at-total cmp o column options) (columns-total rest)

-- the rows are as many as the first column's slots
pub first-count : (columns : List SortColumn) (d : SortColumn) → 0 < length columns
    → values_count (get_or columns 0 d).values ≡ rows_count columns
first-count [] d some = absurd (omega (arith, some))
first-count (first ∷ rest) d some = refl

-- the order of rows, by that of the first column and by the others
pub first-and_rest : (columns : List SortColumn) (first : SortColumn) (rest : List SortColumn) → 0 < length columns
    → first ≡ get_or columns 0 first → rest ≡ drop 1 columns → columns ≡ first ∷ rest
first-and_rest [] first rest some is others = absurd (omega (arith, some))
first-and_rest (column ∷ columns) first rest some is others = sym (ap₂ (λ c cs. c ∷ cs) is others)
