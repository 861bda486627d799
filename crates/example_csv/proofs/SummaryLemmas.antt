-- Lemmas about summaries.
use Rattle.std.proofs.Common.{◌≡◌, ◌∙◌, ◌∷◌, ◌++◌, ◌+◌, ◌<◌, ◌≤◌, [], ℕ, List, Option, ap, arith, get_or, length}
use Rattle.std.proofs.Common.{map, sym, take}
use Rattle.std.specs.List.{AllZip}
use Rattle.std.proofs.lemmas.List.{length-map, map-append, map-id, take_more}
use Rattle.std.proofs.lemmas.Simd.{map-map}
use Rattle.std.proofs.lemmas.Slice.Zip.{all_zipped_more}
use Rattle.example_record_batch.specs.declared.any.AnyArray.{AnyArray}
use Rattle.example_record_batch.specs.declared.batch.Field.{Field}
use Rattle.example_record_batch.specs.AnyArrays.{Cell, cells_of, slot_count}
use Rattle.example_record_batch.specs.Batches.{Batch, HaveRows, Named, batch_of, named}
use Rattle.example_record_batch.proofs.CallerLemmas.{cell-count}
use Rattle.example_csv.proofs.TableLemmas.{each_column}

-- the cells of slots that a loop over all fields of a table makes
pub cells-made : {X : Type 0} (cell : Option X → Cell) (item : Named → Option X) (fields : List Field) (batch : Batch)
    (n : ℕ) (slots : List (Option X)) → batch_of fields batch.rows ≡ batch → length fields ≤ n
    → slots ≡ map (λ field. item (named field)) (take n fields)
    → map cell slots ≡ map (λ column. cell (item column)) batch.columns
cells-made cell item fields batch n slots e all made =
    ap (map cell) (made ∙ each_column item fields batch n e all) ∙ map-map cell item batch.columns

-- the columns of all fields of a table
pub all_columns : (fields : List Field) (batch : Batch) (n : ℕ) → batch_of fields batch.rows ≡ batch → length fields ≤ n
    → map named (take n fields) ≡ batch.columns
all_columns fields batch n e all = each_column (λ column. column) fields batch n e all ∙ map-id batch.columns

-- a column and its text more
pub texts-more : (R : Named → Option (List ℕ) → Type 0) (fields : List Field) (i : ℕ) (field : Field)
    (texts : List (Option (List ℕ))) (one : Option (List ℕ)) → i < length fields → field ≡ get_or fields i field
    → AllZip R (map named (take i fields)) texts → R (named field) one
    → AllZip R (map named (take (i + 1) fields)) (texts ++ one ∷ [])
texts-more R fields i field texts one within e h fact =
    rw (take_more fields i field within, ← e, map-append named (take i fields) (field ∷ []))
    (all_zipped_more R (map named (take i fields)) texts (named field) one h fact)

-- an array of a cell for each item has as many slots as there are items
pub count_of : {X : Type 0} (array : AnyArray) (cell : X → Cell) (items : List X) (n : ℕ) → cells_of array ≡ map
    cell items
    → length items ≡ n → slot_count array ≡ n
count_of array cell items n e h = sym (cell-count array) ∙ ap length e ∙ length-map items cell ∙ h

-- a table has as many columns as fields
pub length-columns : (fields : List Field) (batch : Batch) → batch_of fields batch.rows ≡ batch
    → length batch.columns ≡ length fields
length-columns fields batch e = ap (λ (b : Batch). length b.columns) (sym e) ∙ length-map fields named

-- no field is of any length
pub no-rows : (fields : List Field) (n : ℕ) → fields ≡ [] → HaveRows fields n
no-rows fields n e = rw e (λ k d l. absurd (omega arith))
