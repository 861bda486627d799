-- Lemmas about the columns and rows of a table.
use Rattle.std.proofs.Common.{◌≡◌, ◌∙◌, ◌∷◌, ◌++◌, ◌+◌, ◌<◌, ◌≤◌, [], ℕ, List, ap, get_or, refl, length, map, sym}
use Rattle.std.proofs.Common.{take, zero-add}
use Rattle.std.specs.Prelude.{codes, fold, max}
use Rattle.std.specs.List.{flat_map, range_with_len}
use Rattle.std.proofs.lemmas.Grind.{flat_map-append}
use Rattle.std.proofs.lemmas.List.{append-nil, flat_map_more, get_or-map, map-append, take_all, take_more}
use Rattle.std.proofs.lemmas.List.FromFn.{map-range_with_len_more}
use Rattle.std.proofs.lemmas.List.Sums.{fold-append}
use Rattle.std.proofs.lemmas.Simd.{map-map}
use Rattle.dethrugn.proofs.CallerLemmas.Types.{range-more}
use Rattle.example_record_batch.specs.declared.batch.Field.{Field}
use Rattle.example_record_batch.specs.AnyArrays.{cell_at}
use Rattle.example_record_batch.specs.Batches.{Batch, Named, batch_of, named}
use Rattle.example_csv.specs.Aligned.{column_width, column_widths, shown_width}
use Rattle.example_csv.specs.Text.{cell_text}

-- what a loop over all fields of a table makes is made of each column
pub each_column : {A : Type 0} (g : Named → A) (fields : List Field) (batch : Batch) (n : ℕ)
    → batch_of fields batch.rows ≡ batch → length fields ≤ n
    → map (λ field. g (named field)) (take n fields) ≡ map g batch.columns
each_column g fields batch n e all =
    ap (map (λ field. g (named field))) (take_all n fields all)
    ∙ sym (map-map g named fields)
    ∙ ap (λ (b : Batch). map g b.columns) e

-- the text of one row more
pub rows-more : (first : List ℕ) (row : ℕ → List ℕ) (n : ℕ)
    → (first ++ flat_map row (range_with_len 0 n)) ++ row n ≡ first ++ flat_map row (range_with_len 0 (n + 1))
rows-more first row n = rw (range-more n) (flat_map_more row first (range_with_len 0 n) n)

-- the width of a column of one cell more
pub column_width-more : (rows : ℕ) (column : Named)
    → column_width (rows + 1) column ≡ max (column_width rows column)
    (shown_width (cell_text (cell_at column.array rows)))
column_width-more rows column =
    let texts = λ (i : ℕ). cell_text (cell_at column.array i) in
    let wider = λ (width : ℕ) (text : List ℕ). max width (shown_width text) in
    ap (λ cells. fold wider 0 (column.name ∷ cells)) (map-range_with_len_more texts 0 rows rows (zero-add rows))
    ∙ fold-append wider (wider 0 column.name) (map texts (range_with_len 0 rows)) (texts rows ∷ [])

-- a line of equal cells
pub line_of : {xs ys : List (List ℕ)} → xs ≡ ys
    → flat_map (λ cell. cell ++ codes "  ") xs ≡ flat_map (λ cell. cell ++ codes "  ") ys
line_of e = ap (flat_map (λ cell. cell ++ codes "  ")) e

-- a line of one cell more
pub cells-more : (cell : Field → List ℕ) (fields : List Field) (i : ℕ) (field : Field) → i < length fields
    → field ≡ get_or fields i field
    → flat_map (λ cell. cell ++ codes "  ") (map cell (take (i + 1) fields))
    ≡ flat_map (λ cell. cell ++ codes "  ") (map cell (take i fields)) ++ (cell field ++ codes "  ")
cells-more cell fields i field within e =
    rw
    (take_more fields i field within, ← e, map-append cell (take i fields) (field ∷ []), flat_map-append (λ (text : List ℕ). text ++ codes "  ") (map cell (take i fields)) (cell field ∷ []), append-nil (cell field ++ codes "  "))
    refl

-- the width of a column
pub width_at : (fields : List Field) (batch : Batch) (i : ℕ) (field : Field) (widths : List ℕ)
    → batch_of fields batch.rows ≡ batch → widths ≡ column_widths batch → i < length fields
    → field ≡ get_or fields i field
    → get_or widths i 0 ≡ column_width batch.rows (named field)
width_at fields batch i field widths e w within f =
    let columns : widths ≡ map (λ field. column_width batch.rows (named field)) fields =
    w ∙ ap (λ (b : Batch). map (column_width batch.rows) b.columns) (sym e) ∙ map-map (column_width batch.rows) named
    fields in
    ap (λ ws. get_or ws i 0) columns
    ∙ get_or-map (λ field. column_width batch.rows (named field)) fields i field 0 within
    ∙ ap (λ f. column_width batch.rows (named f)) (sym f)
