-- The laws of arrays and batches.
use Rattle.std.proofs.Common.{◌≡◌, ℕ, ◌+◌, ◌<◌, ◌≤◌, Bool, List, [], ◌∷◌, ◌++◌, length, map, take, drop}
use Rattle.std.proofs.Common.{slice_get, Option, Some}
use Rattle.std.proofs.Common.{None, refl, ap, ◌∙◌, sym, arith}
use Rattle.std.specs.Prelude.{All, flat_map, option_map}
use Rattle.std.specs.List.{cons_option, filter_map, range_with_len}
use Rattle.std.proofs.lemmas.List.{length-map}
use Rattle.std.proofs.lemmas.List.Elements.{All-map, All-weaker}
use Rattle.std.proofs.lemmas.List.Folds.{flat_map-map}
use Rattle.std.proofs.lemmas.List.FromFn.{length-range_with_len}
use Rattle.std.proofs.lemmas.Option.{same_Some, slice_get-map}
use Rattle.dethrugn.specs.Column.{Column, ColumnWith, slots_of}
use Rattle.dethrugn.specs.Rows.{slot}
use Rattle.dethrugn.specs.Selection.{Concatenates, asked, where_set}
use Rattle.dethrugn.proofs.CallerLemmas.Kernels.{length-asked, length-where, where-map}
use Rattle.dethrugn.proofs.CallerLemmas.Types.{all-at, get-drop, get-take, map-flat_map, map-piece}
use Rattle.example_record_batch.specs.declared.any.AnyArray.{AnyArray}
use Rattle.example_record_batch.specs.declared.any.AnyArray.TheVariants.{Int64, Boolean, Binary, Utf8}
use Rattle.example_record_batch.specs.AnyArrays.{Cell, any_cut, any_filtered, bytes, cell_at, cells_of, number}
use Rattle.example_record_batch.specs.AnyArrays.{slot_count, text, truth}
use Rattle.example_record_batch.specs.Batches.{Batch, IsBatch, Named, asked_count, batch_cut, batch_filtered}
use Rattle.example_record_batch.specs.Batches.{named_cut, named_filtered, row_at, batch_rows}
use Rattle.example_record_batch.specs.Schemas.{named_type, schema_of}
use Rattle.example_record_batch.specs.Concatenation.{IsConcat, IsConcatArray, arrays_at}
use Rattle.example_record_batch.proofs.IndexLemmas.{cut-values, get-map-some, get-where}
use Rattle.example_record_batch.proofs.IndexLemmas.{joined}
use Rattle.example_record_batch.proofs.IndexLemmas.{joined-rows, range-values, row, same-maps, same-values}

-- there is a cell for each slot
shown-count : {S : Type 0} (c : Option S → Cell) (rows : List (S × Bool)) → length (map c (map slot rows)) ≡ length rows
shown-count c rows = length-map (map slot rows) c ∙ length-map rows slot

pub cell-count : (array : AnyArray) → length (cells_of array) ≡ slot_count array
cell-count (Int64 column) = shown-count number column.rows
cell-count (Boolean column) = shown-count truth column.rows
cell-count (Binary column) = shown-count bytes column.rows
cell-count (Utf8 column) = shown-count text column.rows

-- the cells of a cut
shown-cut : {S : Type 0} (c : Option S → Cell) (rows : List (S × Bool)) (a n : ℕ)
    → map c (map slot (take n (drop a rows))) ≡ take n (drop a (map c (map slot rows)))
shown-cut c rows a n = ap (map c) (map-piece slot rows a n) ∙ map-piece c (map slot rows) a n

pub cells-cut : (array : AnyArray) (a n : ℕ) → cells_of (any_cut array a n) ≡ take n (drop a (cells_of array))
cells-cut (Int64 column) = shown-cut number column.rows
cells-cut (Boolean column) = shown-cut truth column.rows
cells-cut (Binary column) = shown-cut bytes column.rows
cells-cut (Utf8 column) = shown-cut text column.rows

-- the cells of a filtered array
shown-where : {S : Type 0} (c : Option S → Cell) (marks : List Bool) (rows : List (S × Bool))
    → map c (map slot (where_set marks rows)) ≡ where_set marks (map c (map slot rows))
shown-where c marks rows = sym (where-map c marks (map slot rows) ∙ ap (map c) (where-map slot marks rows))

pub cells-filtered : (array : AnyArray) (filter : Column Bool)
    → cells_of (any_filtered array filter) ≡ where_set (asked filter) (cells_of array)
cells-filtered (Int64 column) filter = shown-where number (asked filter) column.rows
cells-filtered (Boolean column) filter = shown-where truth (asked filter) column.rows
cells-filtered (Binary column) filter = shown-where bytes (asked filter) column.rows
cells-filtered (Utf8 column) filter = shown-where text (asked filter) column.rows

-- the cells of a concatenation
shown-concat : {A S : Type 0} (c : Option S → Cell) (array : ColumnWith A S → AnyArray)
    → ((column : ColumnWith A S) → cells_of (array column) ≡ map c (slots_of column))
    → (nothing : A) (columns : List (ColumnWith A S)) (arrays : List AnyArray) (made : ColumnWith A S)
    → map array columns ≡ arrays → Concatenates nothing columns made
    → map c (slots_of made) ≡ flat_map cells_of arrays
shown-concat c array cells nothing [] arrays made e h = absurd h
shown-concat c array cells nothing (first ∷ others) arrays made e h =
    let columns = first ∷ others in
    ap (λ column. map c (slots_of column)) h
    ∙ ap (map c) (map-flat_map slot (λ column. column.rows) columns)
    ∙ map-flat_map c slots_of columns
    ∙ (λ i. flat_map (λ column. sym (cells column) i) columns)
    ∙ sym (flat_map-map cells_of array columns)
    ∙ ap (flat_map cells_of) e

pub cells-concat : (arrays : List AnyArray) (made : AnyArray) → IsConcatArray arrays made
    → cells_of made ≡ flat_map cells_of arrays
cells-concat arrays (Int64 made) h = shown-concat number Int64 (λ column. refl) tt h.0 arrays made h.1 h.2
cells-concat arrays (Boolean made) h = shown-concat truth Boolean (λ column. refl) tt h.0 arrays made h.1 h.2
cells-concat arrays (Binary made) h = shown-concat bytes Binary (λ column. refl) _ h.0 arrays made h.1 h.2
cells-concat arrays (Utf8 made) h = shown-concat text Utf8 (λ column. refl) _ h.0 arrays made h.1 h.2

-- the rows of a cut
pub row-cut : (batch : Batch) (a n i : ℕ) → i < n → row_at (batch_cut batch a n) i ≡ row_at batch (a + i)
row-cut batch a n i h = cells batch.columns
  where
    cell : (array : AnyArray) → cell_at (any_cut array a n) i ≡ cell_at array (a + i)
    cell array = ap (λ cells. slice_get cells i) (cells-cut array a n)
        ∙ get-take (drop a (cells_of array)) n i h ∙ get-drop (cells_of array) a i

    cells : (columns : List Named) → map (λ column. cell_at column.array i) (map (named_cut a n) columns)
        ≡ map (λ column. cell_at column.array (a + i)) columns
    cells [] = refl
    cells (column ∷ columns) = λ j. cell column.array j ∷ cells columns j

pub rows-cut : (batch : Batch) (a n : ℕ) → a + n ≤ batch.rows
    → batch_rows (batch_cut batch a n) ≡ take n (drop a (batch_rows batch))
rows-cut batch a n h =
    range-values (row_at (batch_cut batch a n)) (row_at batch) 0 a n
    (λ i low. row-cut batch a n (0 + i) (omega arith) ∙ ap (row_at batch) (omega arith))
    ∙ sym (cut-values (row_at batch) 0 batch.rows a n h
    ∙ ap (λ b. map (row_at batch) (range_with_len b n)) (omega arith))

-- the rows of a filtered batch
pub rows-filtered : (batch : Batch) (filter : Column Bool) → IsBatch batch → length filter.rows ≡ batch.rows
    → batch_rows (batch_filtered batch filter) ≡ where_set (asked filter) (batch_rows batch)
rows-filtered batch filter each same =
    ap (λ n. map (row_at (batch_filtered batch filter)) (range_with_len 0 n)) (sym count)
    ∙ same-values (row_at (batch_filtered batch filter)) (row_at batch) indexes 0 row-filtered
    ∙ sym (where-map (row_at batch) (asked filter) (range_with_len 0 (length (asked filter))))
    ∙ ap (λ n. where_set (asked filter) (map (row_at batch) (range_with_len 0 n))) marks
  where
    marks : length (asked filter) ≡ batch.rows
    marks = length-asked filter ∙ same

    indexes : List ℕ
    indexes = where_set (asked filter) (range_with_len 0 (length (asked filter)))

    count : length indexes ≡ asked_count filter
    count =
        length-where (asked filter) (range_with_len 0 (length (asked filter))) (sym (length-range_with_len 0 (length
        (asked filter))))

    cell : (array : AnyArray) (i k : ℕ) → slot_count array ≡ batch.rows → slice_get indexes i ≡ Some k
        → cell_at (any_filtered array filter) i ≡ cell_at array k
    cell array i k long e =
        let w = get-where (asked filter) (cells_of array) 0 i k (marks ∙ sym (cell-count array ∙ long)) e in
        ap (λ cells. slice_get cells i) (cells-filtered array filter) ∙ w.2
        ∙ ap (slice_get (cells_of array)) (omega (arith, w.1))

    row-filtered : (i k : ℕ) → slice_get indexes i ≡ Some k
        → row_at (batch_filtered batch filter) (0 + i) ≡ row_at batch k
    row-filtered i k e =
        same-maps (λ column. cell_at column.array (0 + i)) (λ column. cell_at column.array k)
        (map (named_filtered filter) batch.columns) batch.columns (length-map batch.columns (named_filtered filter))
        (λ j x y p q.
        let w = get-map-some (named_filtered filter) batch.columns j x p in
        let f : w.0 ≡ y = same_Some w.0 y (sym w.1 ∙ q) in
        let zero_more : 0 + i ≡ i = omega arith in
        ap (λ column. cell_at column.array (0 + i)) (w.2 ∙ ap (named_filtered filter) f)
        ∙ ap (cell_at (any_filtered y.array filter)) zero_more
        ∙ cell y.array i k (all-at (λ column. slot_count column.array ≡ batch.rows) batch.columns j y each q) e)

-- the cells of a column
abbrev cells : Named → List Cell
cells column = cells_of column.array

abbrev cells_by_column : Batch → List (List Cell)
cells_by_column batch = map cells batch.columns

row-cells : (columns : List Named) (i : ℕ) → row (map cells columns) i ≡ map (λ column. cell_at column.array i) columns
row-cells [] i = refl
row-cells (column ∷ columns) i = ap (λ rest. cell_at column.array i ∷ rest) (row-cells columns i)

-- the cells of the columns at index k of several batches
cells-at : (batches : List Batch) (k : ℕ)
    → flat_map cells_of (arrays_at batches k) ≡ joined cells_by_column (λ batch. batch.rows) batches k
cells-at [] k = refl
cells-at (batch ∷ batches) k =
    first (slice_get batch.columns k) _ _ (cells-at batches k)
    ∙ ap (λ o. flat_map (λ cs. cs) (cons_option o (filter_map (λ batch. slice_get
    (cells_by_column batch) k) batches))) (sym (slice_get-map cells batch.columns k))
  where
    first : (o : Option Named) (arrays : List AnyArray) (css : List (List Cell))
        → flat_map cells_of arrays ≡ flat_map (λ cs. cs) css
        → flat_map cells_of (cons_option (option_map (λ column. column.array) o) arrays)
        ≡ flat_map (λ cs. cs) (cons_option (option_map cells o) css)
    first None arrays css e = e
    first (Some column) arrays css e = ap (λ rest. cells column ++ rest) e

-- the rows of a concatenation
pub rows-concat : (batches : List Batch) (made : Batch) → All IsBatch batches → IsConcat batches made
    → batch_rows made ≡ flat_map batch_rows batches
rows-concat batches made each h =
    (λ j. map (λ i. sym (row-cells made.columns i) j) (range_with_len 0 made.rows))
    ∙ ap (λ n. map (row (cells_by_column made)) (range_with_len 0 n)) h.rows
    ∙ joined-rows cells_by_column (λ batch. batch.rows) (length made.columns) batches (cells_by_column made)
    (length-map made.columns cells) long wide at
    ∙ (λ j. flat_map (λ batch. map (λ i. row-cells batch.columns i j) (range_with_len 0 batch.rows)) batches)
  where
    long : All (λ batch. All (λ cs. length cs ≡ batch.rows) (cells_by_column batch)) batches
    long =
        All-weaker IsBatch (λ batch. All (λ cs. length cs ≡ batch.rows) (cells_by_column batch))
        (λ batch is_batch. All-map (λ cs. length cs ≡ batch.rows) cells batch.columns (All-weaker
        (λ column. slot_count column.array ≡ batch.rows) (λ column. length (cells column) ≡ batch.rows)
        (λ column e. cell-count column.array ∙ e) batch.columns is_batch)) batches each

    wide : All (λ batch. length (cells_by_column batch) ≡ length made.columns) batches
    wide =
        All-weaker (λ batch. schema_of batch ≡ schema_of made)
        (λ batch. length (cells_by_column batch) ≡ length made.columns)
        (λ batch e. length-map batch.columns cells ∙ sym (length-map batch.columns named_type) ∙ ap length e
        ∙ length-map made.columns named_type) batches h.schema

    at : (k : ℕ) (cs : List Cell) → slice_get (cells_by_column made) k ≡ Some cs
        → cs ≡ joined cells_by_column (λ batch. batch.rows) batches k
    at k cs p =
        let w = get-map-some cells made.columns k cs p in
        w.2 ∙ cells-concat (arrays_at batches k) w.0.array
        (h.arrays k w.0.array (ap (option_map (λ column. column.array)) w.1))
        ∙ cells-at batches k
