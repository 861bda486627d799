-- Lemmas about takes by indexes that are each there at most once.
use Rattle.std.proofs.Common.{◌≡◌, ◌∙◌, ℕ, ◌+◌, ◌<◌, ◌≤◌, ◌^◌, List, [], ◌∷◌, Some, None, true, if◌then◌else◌, ap}
use Rattle.std.proofs.Common.{arith, get_or, length, map, pos, refl, slice_get, subst, suc, sym}
use Rattle.std.specs.Prelude.{All, option_and_then}
use Rattle.std.specs.List.{cons_option}
use Rattle.std.proofs.lemmas.Bool.{lt-ltb}
use Rattle.std.proofs.lemmas.List.Elements.{All-get_or, All-head, All-map, All-tail, All-weaker}
use Rattle.std.proofs.lemmas.Option.{slice_get-get_or}
use Rattle.dethrugn.specs.Column.{ColumnWith, slots_of}
use Rattle.dethrugn.specs.Selection.{at_key, at_keys}
use Rattle.dethrugn.specs.Sort.{PickOnce}
use Rattle.dethrugn.proofs.CallerLemmas.Column.{length-slots}
use Rattle.example_record_batch.specs.declared.any.AnyArray.{AnyArray}
use Rattle.example_record_batch.specs.declared.any.AnyArray.TheVariants.{Int64, Boolean, Binary, Utf8}
use Rattle.example_record_batch.specs.declared.batch.Field.{Field}
use Rattle.example_record_batch.specs.AnyArrays.{slot_count}
use Rattle.example_record_batch.specs.Batches.{HaveRows, Named, named}
use Rattle.example_record_batch.specs.Taking.{any_taken, named_taken}
use Rattle.example_record_batch.proofs.BatchLemmas.{named-rows, rows-named}

-- indexes that pick from as many slots as there are rows
pub picks-slots : {A S : Type 0} (column : ColumnWith A S) (indexes : List ℕ) → PickOnce (length column.rows) indexes
    → PickOnce (length (slots_of column)) indexes
picks-slots column indexes picks = subst (λ n. PickOnce n indexes) (sym (length-slots column)) picks

at-index : {X : Type 0} (xs : List X) (k : ℕ) (d : X) → length xs < 2 ^ 64 → k < length xs
    → at_key xs (pos k) ≡ Some (get_or xs k d)
at-index xs k d small within =
    ap (λ t. option_and_then (slice_get xs) (if t then Some k else None)) (lt-ltb k (2 ^ 64) (omega (arith, small, within)))
    ∙ slice_get-get_or xs k d within

-- each of them takes one
length-taken : {X : Type 0} (xs : List X) (keys : List ℕ) (d : X) → length xs < 2 ^ 64 → All (λ k. k < length xs) keys
    → length (at_keys (λ key. pos key) keys xs) ≡ length keys
length-taken xs [] d small all = refl
length-taken xs (k ∷ keys) d small all =
    ap (λ o. length (cons_option o (at_keys (λ key. pos key) keys xs)))
    (at-index xs k d small (All-head (λ i. i < length xs) k keys all))
    ∙ ap suc (length-taken xs keys d small (All-tail (λ i. i < length xs) k keys all))

-- and of no items none are taken
taken-count : {X : Type 0} (xs : List X) (keys : List ℕ) → length xs < 2 ^ 64 → All (λ k. k < length xs) keys
    → length (at_keys (λ key. pos key) keys xs) ≡ length keys
taken-count [] [] small all = refl
taken-count [] (k ∷ keys) small all = absurd (none-below k (All-head (λ i. i < 0) k keys all))
  where
    none-below : (k : ℕ) → k < 0 → ⊥
    none-below k less = omega arith
taken-count (x ∷ xs) keys small all = length-taken (x ∷ xs) keys x small all

pub slot_count-taken : (array : AnyArray) (keys : List ℕ) → slot_count array < 2 ^ 64
    → All (λ k. k < slot_count array) keys → slot_count (any_taken array keys) ≡ length keys
slot_count-taken (Int64 column) keys small all = taken-count column.rows keys small all
slot_count-taken (Boolean column) keys small all = taken-count column.rows keys small all
slot_count-taken (Binary column) keys small all = taken-count column.rows keys small all
slot_count-taken (Utf8 column) keys small all = taken-count column.rows keys small all

-- the columns that a take makes of columns of equal length are of equal length
pub taken-rows : (fields made : List Field) (keys : List ℕ) (n : ℕ) → HaveRows fields n → n < 2 ^ 64
    → All (λ k. k < n) keys → map named made ≡ map (named_taken keys) (map named fields)
    → HaveRows made (length keys)
taken-rows fields made keys n h small all e =
    let P = λ (column : Named). slot_count column.array ≡ length keys in
    let Q = λ (column : Named). slot_count column.array ≡ n in
    rows-named made (length keys) (subst (All P) (sym e) (All-map P (named_taken keys) (map named fields)
    (All-weaker Q (λ column. P (named_taken keys column)) (λ column same. slot_count-taken column.array keys
    (subst (λ m. m < 2 ^ 64) (sym same) small) (subst (λ m. All (λ k. k < m) keys) (sym same) all)) (map named fields)
    (named-rows fields n h))))

-- indexes that pick from the rows of columns of equal length pick from each of them
pub picks-field : (fields : List Field) (i n : ℕ) (field : Field) (indexes : List ℕ) → HaveRows fields n
    → i < length fields → field ≡ get_or fields i field → PickOnce n indexes
    → PickOnce (slot_count field.array) indexes
picks-field fields i n field indexes each within is picks =
    let here : slot_count (get_or fields i field).array ≡ n =
    All-get_or (λ field. slot_count field.array ≡ n) fields i field within each in
    subst (λ m. PickOnce m indexes) (sym (ap (λ (f : Field). slot_count f.array) is ∙ here)) picks
