-- Slots at keys.
use Rattle.std.proofs.Common.{◌≡◌, ◌∙◌, ◌&&◌, ◌<◌, ◌+◌, ◌++◌, take, get_or, ℕ, ℤ, zero, suc, Bool, true, false, if◌then◌else◌, List, [], ◌∷◌, map, length, Option, Some, None, is_some, option_and_then, slice_get, unwrap_or, refl, ap, ap₂, sym, arith, true≢false}
use Rattle.std.specs.Prelude.{All, IsSomeAnd, IsTrue}
use Rattle.std.specs.List.{filter_map, list_all}
use Rattle.std.proofs.lemmas.List.{map-append, take_more}
use Rattle.std.proofs.lemmas.List.Elements.{All-head, All-tail}
use Rattle.arrow_types.specs.IndexKey.{index_of}
use Rattle.arrow_memory.specs.Rows.{Row, slot}
use Rattle.arrow_column.specs.Masks.{mask_with_nulls}
use Rattle.arrow_bytes.specs.Selection.{at_key}
use Rattle.compute_select.specs.Selects.{slots_at_keys, values_at_keys}
use Rattle.compute_select.proofs.ShownLemmas.{StoresShown}

module _ {X : Type 0} where
  -- ---- what is looked up at an index

  mark-by : (rows : List (Row X)) (i : ℕ) → unwrap_or (slice_get (map (λ (row : Row X). row.1) rows) i) false
      ≡ is_some (unwrap_or (slice_get (map slot rows) i) None)
  mark-by [] i = refl
  mark-by ((v, true) ∷ rows) zero = refl
  mark-by ((v, false) ∷ rows) zero = refl
  mark-by (row ∷ rows) (suc i) = mark-by rows i

  mark-at : (rows : List (Row X)) (place : Option ℕ)
      → unwrap_or (option_and_then (slice_get (map (λ (row : Row X). row.1) rows)) place) false
      ≡ is_some (unwrap_or (option_and_then (slice_get (map slot rows)) place) None)
  mark-at rows None = refl
  mark-at rows (Some i) = mark-by rows i

  value-by : (default : X) (rows : List (Row X)) (i : ℕ) (vs : List X) (slots : List (Option X)) → StoresShown vs slots
      → StoresShown (unwrap_or (slice_get (map (λ (row : Row X). row.0) rows) i) default ∷ vs)
      (unwrap_or (slice_get (map slot rows) i) None ∷ slots)
  value-by default [] i vs slots stores = stores
  value-by default ((v, true) ∷ rows) zero vs slots stores = (refl, stores)
  value-by default ((v, false) ∷ rows) zero vs slots stores = stores
  value-by default (row ∷ rows) (suc i) vs slots stores = value-by default rows i vs slots stores

  value-at : (default : X) (rows : List (Row X)) (place : Option ℕ) (vs : List X) (slots : List (Option X))
      → StoresShown vs slots
      → StoresShown (unwrap_or (option_and_then (slice_get (map (λ (row : Row X). row.0) rows)) place) default ∷ vs)
      (unwrap_or (option_and_then (slice_get (map slot rows)) place) None ∷ slots)
  value-at default rows None vs slots stores = stores
  value-at default rows (Some i) vs slots stores = value-by default rows i vs slots stores

  shown-by : (rows : List (Row X)) (i : ℕ) → IsTrue (list_all (λ (row : Row X). row.1) rows) → i < length rows
      → true ≡ is_some (unwrap_or (slice_get (map slot rows) i) None)
  shown-by [] i valid low = absurd (omega (arith, low))
  shown-by ((v, true) ∷ rows) zero valid low = refl
  shown-by ((v, true) ∷ rows) (suc i) valid low = shown-by rows i valid (omega (arith, low))
  shown-by ((v, false) ∷ rows) i valid low = absurd (true≢false (sym valid))

  shown-at : (rows : List (Row X)) (place : Option ℕ) → IsTrue (list_all (λ (row : Row X). row.1) rows)
      → IsSomeAnd place (λ i. i < length rows)
      → true ≡ is_some (unwrap_or (option_and_then (slice_get (map slot rows)) place) None)
  shown-at rows None valid within = absurd within
  shown-at rows (Some i) valid within = shown-by rows i valid within

module _ {K X : Type 0} (number : K → ℤ) (rows : List (Row X)) where
  -- the stored values at keys are those of the result
  pub stores-taken : (default : X) (keys : List (Row K))
      → StoresShown (values_at_keys number default (map (λ (row : Row X). row.0) rows) (map (λ (row : Row K). row.0) keys))
      (slots_at_keys number (map slot rows) (map slot keys))
  stores-taken default [] = tt
  stores-taken default ((key, true) ∷ keys) =
      value-at default rows (index_of (number key))
      (values_at_keys number default (map (λ (row : Row X). row.0) rows) (map (λ (row : Row K). row.0) keys))
      (slots_at_keys number (map slot rows) (map slot keys)) (stores-taken default keys)
  stores-taken default ((key, false) ∷ keys) = stores-taken default keys

  -- the marks at keys are those of the result
  pub marks-taken : (keys : List (Row K))
      → map (λ (row : Row K). row.1 && unwrap_or (at_key (map (λ (r : Row X). r.1) rows) (number row.0)) false) keys
      ≡ map is_some (slots_at_keys number (map slot rows) (map slot keys))
  marks-taken [] = refl
  marks-taken ((key, true) ∷ keys) = ap₂ (λ m ms. m ∷ ms) (mark-at rows (index_of (number key))) (marks-taken keys)
  marks-taken ((key, false) ∷ keys) = ap (λ ms. false ∷ ms) (marks-taken keys)

  -- keys in bounds of an array without a null
  pub marks-bare : (keys : List (Row K)) → IsTrue (list_all (λ (row : Row X). row.1) rows)
      → All (λ key. IsSomeAnd (index_of (number key)) (λ i. i < length rows)) (filter_map slot keys)
      → map (λ (row : Row K). row.1) keys ≡ map is_some (slots_at_keys number (map slot rows) (map slot keys))
  marks-bare [] valid all = refl
  marks-bare ((key, true) ∷ keys) valid all =
      ap₂ (λ m ms. m ∷ ms)
      (shown-at rows (index_of (number key)) valid
      (All-head (λ k. IsSomeAnd (index_of (number k)) (λ i. i < length rows)) key (filter_map slot keys) all))
      (marks-bare keys valid
      (All-tail (λ k. IsSomeAnd (index_of (number k)) (λ i. i < length rows)) key (filter_map slot keys) all))
  marks-bare ((key, false) ∷ keys) valid all = ap (λ ms. false ∷ ms) (marks-bare keys valid all)

-- a mark at a key, by the mark of the key's slot and what is looked up
pub key-mark-at : {K : Type 0} (number : K → ℤ) (marks : List Bool) (keys : List (Row K)) (i : ℕ) (m e : Bool)
    → slice_get (map (λ (row : Row K). row.1) keys) i ≡ Some m
    → slice_get (values_at_keys number false marks (map (λ (row : Row K). row.0) keys)) i ≡ Some e
    → slice_get (map (λ (row : Row K). row.1 && unwrap_or (at_key marks (number row.0)) false) keys) i ≡ Some (m && e)
key-mark-at number marks [] i m e first second = absurd (cc)
key-mark-at number marks ((key, n) ∷ keys) zero m e first second =
    let left : n ≡ m = cc in
    let right : unwrap_or (at_key marks (number key)) false ≡ e = cc in
    ap₂ (λ k l. Some (k && l)) left right
key-mark-at number marks (key ∷ keys) (suc i) m e first second = key-mark-at number marks keys i m e first second

-- ---- masks of columns

all-set : {X : Type 0} (rows : List (Row X)) → IsTrue (list_all (λ (row : Row X). row.1) rows)
    → list_all (λ mark. mark) (map (λ (row : Row X). row.1) rows) ≡ true
all-set [] valid = refl
all-set ((v, true) ∷ rows) valid = all-set rows valid
all-set ((v, false) ∷ rows) valid = absurd (true≢false (sym valid))

-- no mask is needed where all slots are valid
pub none-needed : {X : Type 0} (rows : List (Row X)) → IsTrue (list_all (λ (row : Row X). row.1) rows)
    → None ≡ mask_with_nulls (Some (map (λ (row : Row X). row.1) rows))
none-needed {X} rows valid =
    sym (ap (λ b. if b then None else Some (map (λ (row : Row X). row.1) rows)) (all-set rows valid))

-- ---- lists that grow

pub next-mapped : {X Y : Type 0} (f : X → Y) (xs : List X) (vs : List Y) (i : ℕ) (x : X) (y : Y) → i < length xs
    → x ≡ get_or xs i x → vs ≡ map f (take i xs) → y ≡ f x → vs ++ y ∷ [] ≡ map f (take (i + 1) xs)
next-mapped f xs vs i x y low read so_far same =
    ap₂ (λ front z. front ++ z ∷ []) so_far same ∙ sym (map-append f (take i xs) (x ∷ []))
    ∙ ap (map f) (sym (take_more xs i x low ∙ ap (λ z. take i xs ++ z ∷ []) (sym read)))
