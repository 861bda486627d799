-- What kernels make of columns: a column of some of the rows of another, those that a filter selects, or those at the
-- indexes that keys are; and the concatenation of several columns.
use Rattle.std.specs.Prelude.{◌≡◌, ℕ, ℤ, Bool, false, not, nat_lt, List, [], ◌∷◌, length, map, find}
use Rattle.std.specs.Prelude.{flat_map}
use Rattle.std.specs.Prelude.{Option, None, slice_get, option_and_then, unwrap_or, count_by, take}
use Rattle.std.specs.List.{concat, filter_map, zip}
use Rattle.arrow_types.specs.IndexKey.{index_of}
use Rattle.arrow_memory.specs.Offsets.{last_of}
use Rattle.arrow_memory.specs.Rows.{Row, slot}
use Rattle.arrow_column.specs.Column.{Column, ColumnWith, refused_growth, slots_of, stored_values}
use Rattle.arrow_column.specs.Column.{without_needless_mask}
use Rattle.arrow_check.specs.Indexes.{in_bounds}
use Rattle.arrow_check.specs.Pieces.{items_of}
use Rattle.arrow_types.specs.declared.error.Error.{Error}
use Rattle.arrow_bytes.specs.Pieces.{nothing_around}
use Rattle.arrow_bytes.specs.Column.{ByteColumn, offsets_held}

-- a column of these rows alone, under the type of another: nothing lies around them, and a mask is held exactly where a
-- slot is null
abbrev pub column_of_rows : {A S : Type 0} → A → ColumnWith A S → List (Row S) → ColumnWith A S
column_of_rows nothing column rows = without_needless_mask (record column { around = nothing; rows = rows })

-- those of a list that have a set mark, in order
abbrev pub where_set : {X : Type 0} → List Bool → List X → List X
where_set marks xs = filter_map slot (zip xs marks)

-- those of the first n of a list that have a set mark
abbrev pub set_before : {X : Type 0} → ℕ → List Bool → List X → List X
set_before n marks xs = where_set (take n marks) (take n xs)

-- the number of set marks
abbrev pub count_set : List Bool → ℕ
count_set marks = count_by (λ mark. mark) marks

-- which rows a filter selects: those at which its slot is valid and true
abbrev pub asked : Column Bool → List Bool
asked filter = map (λ shown. unwrap_or shown false) (slots_of filter)

-- what a filter leaves of a column
abbrev pub filtered : {A S : Type 0} → A → ColumnWith A S → Column Bool → ColumnWith A S
filtered nothing column filter = column_of_rows nothing column (where_set (asked filter) column.rows)

-- the element at index `key`, if in bounds
abbrev pub at_key : {X : Type 0} → List X → ℤ → Option X
at_key xs key = option_and_then (slice_get xs) (index_of key)

-- the elements at the indexes that keys are, in the order of the keys; number is the number of a key
abbrev pub at_keys : {K X : Type 0} → (K → ℤ) → List K → List X → List X
at_keys number keys xs = filter_map (λ key. at_key xs (number key)) keys

-- the column of the rows at the indexes that keys are
abbrev pub taken : {A S K : Type 0} → A → (K → ℤ) → ColumnWith A S → List K → ColumnWith A S
taken nothing number column keys = column_of_rows nothing column (at_keys number keys column.rows)

-- the first key, if there is one, that is out of bounds of a column's rows
abbrev pub first_out_of_bounds : {A S K : Type 0} → (K → ℤ) → ColumnWith A S → List K → Option K
first_out_of_bounds number column keys = find (λ key. not (in_bounds (length column.rows) (number key))) keys

-- the number of bytes of the items at keys
abbrev pub taken_length : {K : Type 0} → (K → ℤ) → List K → List ℕ → List ℕ → ℕ
taken_length number keys offsets bytes = length (concat (at_keys number keys (items_of offsets bytes)))

-- whether the items that keys take would end past the greatest number of an offset
abbrev pub taking_overflows : {K : Type 0} → ℕ → (K → ℤ) → ByteColumn → List K → Bool
taking_overflows most number column keys = nat_lt most (length (concat (at_keys number keys (stored_values column))))

-- the column of the rows of several columns in order, with the type of the first
abbrev pub concatenated : {A S : Type 0} → A → ColumnWith A S → List (ColumnWith A S) → ColumnWith A S
concatenated nothing first columns = column_of_rows nothing first (flat_map (λ column. column.rows) columns)

-- there is at least one column, and this is their concatenation
abbrev pub Concatenates : {A S : Type 0} → A → List (ColumnWith A S) → ColumnWith A S → Type 0
Concatenates nothing [] made = ⊥
Concatenates nothing (first ∷ others) made = made ≡ concatenated nothing first (first ∷ others)

-- whether the items of several columns together have more bytes than the greatest offset
abbrev pub concat_overflows : ℕ → List ByteColumn → Bool
concat_overflows most columns = nat_lt most (length (concat (flat_map stored_values columns)))

-- whether the last offset of a column is above the greatest number of 32 bits
abbrev pub narrowing_overflows : ByteColumn → Bool
narrowing_overflows column = nat_lt 2147483647 (last_of (offsets_held column))

-- a take of byte items: their bytes end at most at the greatest offset
abbrev pub TakesItems : {K : Type 0} → ℕ → (K → ℤ) → ByteColumn → List K → ByteColumn → Type 0
TakesItems most number column keys made = (taking_overflows most number column keys ≡ false)
    × (made ≡ taken nothing_around number column keys)

-- why a take of keys in bounds fails: the bytes would end past the greatest offset, or else an allocation failed
abbrev pub TakeRefused : {K : Type 0} → ℕ → (K → ℤ) → ByteColumn → List K → Error → Type 0
TakeRefused most number column keys e = first_out_of_bounds number column keys ≡ None
    → e ≡ refused_growth (taking_overflows most number column keys)

-- a fact of any filter of any column: of the column, the filter and what is left
abbrev pub ForFilters : (A S : Type 0) → (ColumnWith A S → Column Bool → ColumnWith A S → Type 0) → Type 0
ForFilters A S P = (nothing : A) (column : ColumnWith A S) (filter : Column Bool)
    → P column filter (filtered nothing column filter)

-- a fact of any take: of the numbers of keys, the column, the keys and what is taken
abbrev pub ForTakes : (A S K : Type 0) → ((K → ℤ) → ColumnWith A S → List K → ColumnWith A S → Type 0) → Type 0
ForTakes A S K P = (nothing : A) (number : K → ℤ) (column : ColumnWith A S) (keys : List K)
    → P number column keys (taken nothing number column keys)

-- a fact of any take whose keys are all in bounds
abbrev pub ForFitTakes : (A S K : Type 0) → ((K → ℤ) → ColumnWith A S → List K → ColumnWith A S → Type 0) → Type 0
ForFitTakes A S K P = (nothing : A) (number : K → ℤ) (column : ColumnWith A S) (keys : List K)
    → first_out_of_bounds number column keys ≡ None → P number column keys (taken nothing number column keys)
