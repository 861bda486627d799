-- Takes by indexes that are each there at most once.
use Rattle.std.proofs.Common.{◌≡◌, ◌∙◌, ℕ, ◌+◌, ◌<◌, ◌≤◌, ◌^◌, true, false, if◌then◌else◌, not, pos, List, [], ◌∷◌, map, length, get_or, Option, Some, None, slice_get, refl, ap, ap₂, sym, subst, arith, length-append}
use Rattle.std.specs.Prelude.{find, nat_lt, option_and_then}
use Rattle.std.specs.List.{All, concat, cons_option, range_with_len, sum_by}
use Rattle.std.specs.Option.{option_map_or}
use Rattle.std.proofs.lemmas.Bool.{le-ltb, lt-ltb}
use Rattle.std.proofs.lemmas.List.Elements.{All-head, All-tail, All-take}
use Rattle.std.proofs.lemmas.List.FromFn.{fill_by_all}
use Rattle.std.proofs.lemmas.List.Sorted.{All-permutation, sum_by-IsPermutation}
use Rattle.std.proofs.lemmas.List.Sums.{sum_by-cons, sum_by-take-le}
use Rattle.std.proofs.lemmas.List.{length-map}
use Rattle.std.proofs.lemmas.Option.{slice_get-get_or}
use Rattle.arrow_types.proofs.CallerLemmas.{range-below}
use Rattle.arrow_check.specs.Indexes.{in_bounds}
use Rattle.arrow_column.specs.Column.{ColumnWith, slots_of, stored_values}
use Rattle.arrow_bytes.specs.Selection.{at_key, at_keys, first_out_of_bounds, taken}
use Rattle.arrow_memory.specs.Offsets.{last_of}
use Rattle.arrow_memory.specs.Rows.{slot}
use Rattle.arrow_bytes.specs.Column.{ByteColumn, offsets_held}
use Rattle.arrow_bytes.specs.Selection.{taking_overflows}
use Rattle.arrow_bytes.proofs.CallerLemmas.{last-offset}
use Rattle.arrow_kernels.proofs.CallerLemmas.{keys-map}
use Rattle.compute_sort.specs.Sort.{PickOnce, slot_at, up_to}

cut-below : (n : ℕ) (limit : Option ℕ) (all : List ℕ) → All (λ k. k < n) all → All (λ k. k < n) (up_to limit all)
cut-below n None all each = each
cut-below n (Some limit) all each = All-take (λ k. k < n) limit all each

pub picks-below : (n : ℕ) (keys : List ℕ) → PickOnce n keys → All (λ k. k < n) keys
picks-below n keys (all, limit, moves, is) =
    subst (All (λ k. k < n)) (sym is)
    (cut-below n limit all (All-permutation (λ k. k < n) (range_with_len 0 n) all moves (range-below n)))

is-index : (n k : ℕ) → n < 2 ^ 64 → k < n → in_bounds n (pos k) ≡ true
is-index n k small within =
    ap (λ t. option_map_or (λ i. nat_lt i n) (if t then Some k else None) false) (lt-ltb k (2 ^ 64) (omega (arith, small, within)))
    ∙ lt-ltb k n within

no-fault : (n : ℕ) (keys : List ℕ) → n < 2 ^ 64 → All (λ k. k < n) keys
    → find (λ key. not (in_bounds n (pos key))) keys ≡ None
no-fault n [] small all = refl
no-fault n (k ∷ keys) small all =
    ap (λ t. if not t then Some k else find (λ key. not (in_bounds n (pos key))) keys)
    (is-index n k small (All-head (λ i. i < n) k keys all))
    ∙ no-fault n keys small (All-tail (λ i. i < n) k keys all)

pub all-fit : {A S : Type 0} (column : ColumnWith A S) (keys : List ℕ) → length column.rows < 2 ^ 64
    → PickOnce (length (slots_of column)) keys → first_out_of_bounds (λ key. pos key) column keys ≡ None
all-fit column keys small picks =
    no-fault (length column.rows) keys small
    (picks-below (length column.rows) keys (subst (λ n. PickOnce n keys) (length-map column.rows slot) picks))

-- ---- the slots that a take has

indexed : {X : Type 0} (xs : List X) (d : X) → length xs < 2 ^ 64 → (keys : List ℕ) → All (λ k. k < length xs) keys
    → at_keys (λ key. pos key) keys xs ≡ map (λ k. get_or xs k d) keys
indexed xs d small [] all = refl
indexed xs d small (k ∷ keys) all =
    ap₂ cons_option
    (ap (λ t. option_and_then (slice_get xs) (if t then Some k else None))
    (lt-ltb k (2 ^ 64) (omega (arith, small, All-head (λ i. i < length xs) k keys all)))
    ∙ slice_get-get_or xs k d (All-head (λ i. i < length xs) k keys all))
    (indexed xs d small keys (All-tail (λ i. i < length xs) k keys all))

pub taken-slots : {A S : Type 0} (around : A) (column : ColumnWith A S) (keys : List ℕ) → length column.rows < 2 ^ 64
    → PickOnce (length (slots_of column)) keys
    → slots_of (taken around (λ key. pos key) column keys) ≡ map (slot_at (slots_of column)) keys
taken-slots around column keys small picks =
    sym (keys-map slot (λ key. pos key) keys column.rows)
    ∙ indexed (slots_of column) None (omega (arith, small, length-map column.rows slot)) keys
    (picks-below (length (slots_of column)) keys picks)

-- ---- the bytes that a take of items has
module _ (items : List (List ℕ)) (small : length items < 2 ^ 64) where
  abbrev size : ℕ → ℕ
  size k = length (get_or items k [])

  at-index : (k : ℕ) → k < length items → at_key items (pos k) ≡ Some (get_or items k [])
  at-index k within =
      ap (λ t. option_and_then (slice_get items) (if t then Some k else None)) (lt-ltb k (2 ^ 64) (omega (arith, small, within)))
      ∙ slice_get-get_or items k [] within

  taken-size : (keys : List ℕ) → All (λ k. k < length items) keys
      → length (concat (at_keys (λ key. pos key) keys items)) ≡ sum_by size keys
  taken-size [] all = refl
  taken-size (k ∷ keys) all =
      ap (λ o. length (concat (cons_option o (at_keys (λ key. pos key) keys items))))
      (at-index k (All-head (λ i. i < length items) k keys all))
      ∙ length-append (get_or items k []) (concat (at_keys (λ key. pos key) keys items))
      ∙ ap (λ n. length (get_or items k []) + n) (taken-size keys (All-tail (λ i. i < length items) k keys all))
      ∙ sym (sum_by-cons size k keys)

  cut-size : (limit : Option ℕ) (all : List ℕ) → sum_by size (up_to limit all) ≤ sum_by size all
  cut-size None all = omega arith
  cut-size (Some limit) all = sum_by-take-le size all limit

  mapped-size : (indexes : List ℕ) → length (concat (map (λ k. get_or items k []) indexes)) ≡ sum_by size indexes
  mapped-size [] = refl
  mapped-size (k ∷ rest) =
      length-append (get_or items k []) (concat (map (λ i. get_or items i []) rest))
      ∙ ap (λ n. length (get_or items k []) + n) (mapped-size rest)
      ∙ sym (sum_by-cons size k rest)

  whole-size : length (concat items) ≡ sum_by size (range_with_len 0 (length items))
  whole-size =
      ap (λ xs. length (concat xs)) (fill_by_all (λ k. get_or items k []) items (length items) [] refl (λ k within. refl))
      ∙ mapped-size (range_with_len 0 (length items))

  pub no-overflow : (keys : List ℕ) (most : ℕ) → PickOnce (length items) keys → length (concat items) ≤ most
      → nat_lt most (length (concat (at_keys (λ key. pos key) keys items))) ≡ false
  no-overflow keys most (all, limit, moves, is) fits =
      let range : List ℕ = range_with_len 0 (length items) in
      let each : All (λ k. k < length items) keys = picks-below (length items) keys (all, limit, moves, is) in
      let less : sum_by size keys ≤ sum_by size all =
      subst (λ ks. sum_by size ks ≤ sum_by size all) (sym is) (cut-size limit all) in
      le-ltb most (length (concat (at_keys (λ key. pos key) keys items)))
      (omega (arith, taken-size keys each, less, sum_by-IsPermutation size range all moves, whole-size, fits))

pub fits-again : (column : ByteColumn) (offsets keys : List ℕ) (most : ℕ) → length column.rows < 2 ^ 64
    → offsets ≡ offsets_held column → last_of offsets ≤ most → PickOnce (length (slots_of column)) keys
    → taking_overflows most (λ key. pos key) column keys ≡ false
fits-again column offsets keys most small held within picks =
    let items = stored_values column in
    let count : length items ≡ length column.rows = length-map column.rows (λ row. row.0) in
    no-overflow items (omega (arith, small, count)) keys most
    (subst (λ n. PickOnce n keys) (length-map column.rows slot ∙ sym count) picks)
    (omega (arith, ap last_of held, last-offset (length column.around.lead) items, within))
