-- Lemmas about columns of equal length.
use Rattle.std.proofs.Common.{◌≡◌, ℕ, ◌+◌, ◌-◌, ◌<◌, ◌≤◌, Bool, true, false, List, [], ◌∷◌, ◌++◌}
use Rattle.std.proofs.Common.{length, map, take, drop, get_or, Some, refl, ap, subst, ◌∙◌, sym}
use Rattle.std.proofs.Common.{arith}
use Rattle.std.specs.Prelude.{All, find, option_map, slice_set, cond}
use Rattle.std.specs.Str.{bytes_eq}
use Rattle.std.specs.Prelude.{string_bytes}
use Rattle.std.proofs.lemmas.List.{get_or-map, length-map, map-append, take_more}
use Rattle.std.proofs.lemmas.List.Elements.{All-head, All-map, All-tail, All-weaker}
use Rattle.std.proofs.lemmas.List.Edits.{map_over_more}
use Rattle.std.proofs.lemmas.Option.{none-some, same_Some}
use Rattle.dethrugn.specs.Column.{Column}
use Rattle.dethrugn.specs.Selection.{asked}
use Rattle.dethrugn.proofs.CallerLemmas.Kernels.{length-asked, length-where}
use Rattle.dethrugn.proofs.CallerLemmas.Types.{length-cut}
use Rattle.example_record_batch.specs.declared.any.AnyArray.{AnyArray}
use Rattle.example_record_batch.specs.declared.any.AnyArray.TheVariants.{Int64, Boolean, Binary, Utf8}
use Rattle.example_record_batch.specs.declared.batch.Field.{Field}
use Rattle.example_record_batch.specs.AnyArrays.{FitsAnyCut, any_cut, any_filtered, slot_count}
use Rattle.example_record_batch.specs.Batches.{HaveRows, IsBatch, Named, asked_count, batch_of, column_of}
use Rattle.example_record_batch.specs.Batches.{named, named_cut, named_filtered}

-- a column whose array is cut, under its name
abbrev pub field_cut : ℕ → ℕ → Field → Field
field_cut a n field = record field { array = any_cut field.array a n }

pub slot_count-cut : (array : AnyArray) (a n : ℕ) → FitsAnyCut array a n → slot_count (any_cut array a n) ≡ n
slot_count-cut (Int64 column) a n f = length-cut column.rows a n f.0 f.1
slot_count-cut (Boolean column) a n f = length-cut column.rows a n f.0 f.1
slot_count-cut (Binary column) a n f = length-cut column.rows a n f.0 f.1
slot_count-cut (Utf8 column) a n f = length-cut column.rows a n f.0 f.1

pub slot_count-filtered : (array : AnyArray) (filter : Column Bool) → length filter.rows ≡ slot_count array
    → slot_count (any_filtered array filter) ≡ asked_count filter
slot_count-filtered (Int64 column) filter e = length-where (asked filter) column.rows (length-asked filter ∙ e)
slot_count-filtered (Boolean column) filter e = length-where (asked filter) column.rows (length-asked filter ∙ e)
slot_count-filtered (Binary column) filter e = length-where (asked filter) column.rows (length-asked filter ∙ e)
slot_count-filtered (Utf8 column) filter e = length-where (asked filter) column.rows (length-asked filter ∙ e)

-- the cuts of columns of equal length are of equal length
pub cut-rows : (fields : List Field) (a n rows : ℕ) → HaveRows fields rows → a ≤ rows → n ≤ rows - a
    → HaveRows (map (field_cut a n) fields) n
cut-rows fields a n rows h p q =
    All-map (λ (field : Field). slot_count field.array ≡ n) (field_cut a n) fields
    (All-weaker (λ (field : Field). slot_count field.array
    ≡ rows) (λ (field : Field). slot_count (any_cut field.array a n) ≡ n)
    (λ field e. slot_count-cut field.array a n (omega arith, omega arith)) fields h)

-- and their names stay
pub cut-named : (fields : List Field) (a n : ℕ)
    → map named (map (field_cut a n) fields) ≡ map (named_cut a n) (map named fields)
cut-named [] a n = refl
cut-named (field ∷ fields) a n = ap (λ rest. named_cut a n (named field) ∷ rest) (cut-named fields a n)

-- columns with their names are of equal length
pub named-rows : (fields : List Field) (rows : ℕ) → HaveRows fields rows → IsBatch (batch_of fields rows)
named-rows fields rows h = All-map (λ column. slot_count column.array ≡ rows) named fields h

-- one column more is cut
pub cut-more : (a n : ℕ) (xs items : List Field) (i : ℕ) (d : Field) (array : AnyArray) → i < length xs
    → items ≡ map (field_cut a n) (take i xs) ++ drop i xs → d ≡ get_or items i d
    → array ≡ any_cut (get_or items i d).array a n → slice_set items i (record (get_or items i d) { array = array })
    ≡ map (field_cut a n) (take (i + 1) xs) ++ drop (i + 1) xs
cut-more a n xs items i d array h e is f =
    ap (λ c. slice_set items i (record (get_or items i d) { array = c })) f
    ∙ map_over_more (field_cut a n) xs items i (get_or items i d) h e (ap (get_or items i) is)

pub find-map : {X Y : Type 0} (f : X → Y) (p : Y → Bool) (xs : List X)
    → find p (map f xs) ≡ option_map f (find (λ x. p (f x)) xs)
find-map f p [] = refl
find-map f p (x ∷ xs) = grind (arith, find-map f p xs)

pub column-found : (fields : List Field) (rows : ℕ) (name : List ℕ)
    → column_of (batch_of fields rows) name ≡ option_map (λ field. field.array) (find
    (λ field. bytes_eq (string_bytes field.name) name) fields)
column-found fields rows name =
    ap (λ found. option_map (λ column. column.array) found) (find-map named
    (λ column. bytes_eq column.name name) fields)
    ∙ grind arith

-- and so are the columns with these names
pub rows-named : (fields : List Field) (rows : ℕ) → IsBatch (batch_of fields rows) → HaveRows fields rows
rows-named fields rows h = λ k d l.
    subst (λ column. slot_count column.array ≡ rows) (get_or-map named fields k d (named d) l)
    (h k (named d) (subst (λ n. k < n) (sym (length-map fields named)) l))

-- the columns that a filter makes of columns of equal length are of equal length
pub filtered-rows : (fields kept : List Field) (filter : Column Bool) → HaveRows fields (length filter.rows)
    → map named kept ≡ map (named_filtered filter) (map named fields) → HaveRows kept (asked_count filter)
filtered-rows fields kept filter h e =
    let P = λ (column : Named). slot_count column.array ≡ asked_count filter in
    rows-named kept (asked_count filter) (subst (All P) (sym e) (All-map P (named_filtered filter) (map named fields)
    (All-weaker (λ (column : Named). slot_count column.array ≡ length filter.rows) (λ column. P (named_filtered
    filter column)) (λ column same. slot_count-filtered column.array filter (sym same)) (map named fields)
    (named-rows fields (length filter.rows) h))))

-- one column more is made
pub made-more : (make : Named → Named) (fields kept after : List Field) (i : ℕ) (field new : Field)
    → i < length fields → field ≡ get_or fields i field
    → map named kept ≡ map make (map named (take i fields))
    → after ≡ kept ++ new ∷ [] → named new ≡ make (named field)
    → map named after ≡ map make (map named (take (i + 1) fields))
made-more make fields kept after i field new low is before push same =
    ap (map named) push ∙ map-append named kept (new ∷ []) ∙ (λ j. before j ++ same j ∷ [])
    ∙ sym (ap (λ xs. map make (map named xs)) (take_more fields i field low
    ∙ ap (λ x. take i fields ++ x ∷ []) (sym is))
    ∙ ap (map make) (map-append named (take i fields) (field ∷ []))
    ∙ map-append make (map named (take i fields)) (named field ∷ []))

-- the column that is found has the rows of the others
pub found-rows : (fields : List Field) (rows : ℕ) (test : Field → Bool) (field : Field) → HaveRows fields rows
    → find test fields ≡ Some field → slot_count field.array ≡ rows
found-rows [] rows test field each e = absurd (none-some field e)
found-rows (first ∷ fields) rows test field each e =
    by-test (test first) (found-rows fields rows test field (All-tail (λ field. slot_count field.array ≡ rows) first
    fields each)) e
  where
    here : slot_count first.array ≡ rows
    here = All-head (λ field. slot_count field.array ≡ rows) first fields each

    by-test : (b : Bool) → (find test fields ≡ Some field → slot_count field.array ≡ rows)
        → cond b (Some first) (find test fields) ≡ Some field → slot_count field.array ≡ rows
    by-test true later e = subst (λ (field : Field). slot_count field.array ≡ rows) (same_Some first field e) here
    by-test false later e = later e
