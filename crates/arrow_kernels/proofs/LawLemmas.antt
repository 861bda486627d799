-- Lemmas for the laws: how many items marks and keys select, and their order.
use Rattle.std.proofs.Common.{◌≡◌, ℕ, zero, suc, ◌+◌, ◌<◌, ℤ, Bool, true, false, not, cond, List, [], ◌∷◌, length}
use Rattle.std.proofs.Common.{if◌then◌else◌, slice_get, Option, Some, None, option_and_then, refl, zero-add, sym, ap, ◌∙◌, arith}
use Rattle.std.specs.Prelude.{count_by, find, nat_lt, unwrap_or}
use Rattle.std.specs.List.{cons_option}
use Rattle.std.specs.Option.{option_map_or}
use Rattle.std.proofs.lemmas.Bool.{false≢true, ltb-true}
use Rattle.std.proofs.lemmas.List.{length-map}
use Rattle.std.proofs.lemmas.List.Sums.{sum_by-cons}
use Rattle.arrow_types.specs.IndexKey.{index_of}
use Rattle.arrow_check.specs.Indexes.{in_bounds}
use Rattle.arrow_memory.specs.Rows.{slot}
use Rattle.arrow_column.specs.Column.{Column, slots_of}
use Rattle.arrow_bytes.specs.Selection.{asked, at_key, at_keys, where_set}

count-cons : (m : Bool) (marks : List Bool) → count_by (λ mark. mark) (m ∷ marks) ≡ cond m 1 0
    + count_by (λ mark. mark) marks
count-cons m marks = sum_by-cons (λ mark. cond mark 1 0) m marks

pub length-where : {X : Type 0} (marks : List Bool) (xs : List X) → length marks ≡ length xs
    → length (where_set marks xs) ≡ count_by (λ mark. mark) marks
length-where [] [] long = refl
length-where [] (x ∷ xs) long = cc
length-where (m ∷ marks) [] long = cc
length-where (true ∷ marks) (x ∷ xs) long = let e : length marks ≡ length xs = omega (arith, long) in
    omega (arith, length-where marks xs e, count-cons true marks)
length-where (false ∷ marks) (x ∷ xs) long = let e : length marks ≡ length xs = omega (arith, long) in
    length-where marks xs e ∙ sym (count-cons false marks ∙ zero-add (count_by (λ mark. mark) marks))

-- a key that is in bounds gives an item
pub key-item : {X : Type 0} (xs : List X) (n : ℕ) (key : ℤ) → n ≡ length xs → in_bounds n key ≡ true
    → (x : X) × (at_key xs key ≡ Some x)
key-item {X} xs n key same in_range = by_index (index_of key) in_range
  where
    by_index : (place : Option ℕ) → option_map_or (λ index. nat_lt index n) place false ≡ true
        → (x : X) × (option_and_then (slice_get xs) place ≡ Some x)
    by_index None e = absurd (false≢true e)
    by_index (Some index) e = item xs index (omega (arith, ltb-true index n e, same))
      where
        item : (ys : List X) (i : ℕ) → i < length ys → (x : X) × (slice_get ys i ≡ Some x)
        item [] i low = absurd (omega (arith, low))
        item (y ∷ ys) zero low = (y, refl)
        item (y ∷ ys) (suc i) low = item ys i (omega (arith, low))

module _ {K X : Type 0} (number : K → ℤ) (xs : List X) (n : ℕ) (same : n ≡ length xs) where
  -- where no key is out of bounds, neither the first is nor the others are
  first-none : (key : K) (keys : List K) → find (λ k. not (in_bounds n (number k))) (key ∷ keys) ≡ None
      → (in_bounds n (number key) ≡ true) × (find (λ k. not (in_bounds n (number k))) keys ≡ None)
  first-none key keys none = split (in_bounds n (number key)) none
    where
      split : (b : Bool) → (if not b then Some key else find (λ k. not (in_bounds n (number k))) keys) ≡ None
          → (b ≡ true) × (find (λ k. not (in_bounds n (number k))) keys ≡ None)
      split true e = (refl, e)
      split false e = cc

  pub length-keys : (keys : List K) → find (λ k. not (in_bounds n (number k))) keys ≡ None
      → length (at_keys number keys xs) ≡ length keys
  length-keys [] none = refl
  length-keys (key ∷ keys) none =
      let parts = first-none key keys none in
      let found = key-item xs n (number key) same parts.0 in
      ap (λ o. length (cons_option o (at_keys number keys xs))) found.1 ∙ ap suc (length-keys keys parts.1)

  pub key-slot : (keys : List K) (i : ℕ) (key : K) → find (λ k. not (in_bounds n (number k))) keys ≡ None
      → slice_get keys i ≡ Some key → slice_get (at_keys number keys xs) i ≡ at_key xs (number key)
  key-slot [] i key none e = cc
  key-slot (k ∷ keys) zero key none e =
      let found = key-item xs n (number k) same (first-none k keys none).0 in
      let this : k ≡ key = cc in
      ap (λ o. slice_get (cons_option o (at_keys number keys xs)) 0) found.1 ∙ sym found.1
      ∙ ap (λ c. at_key xs (number c)) this
  key-slot (k ∷ keys) (suc i) key none e =
      let parts = first-none k keys none in
      let found = key-item xs n (number k) same parts.0 in
      ap (λ o. slice_get (cons_option o (at_keys number keys xs)) (suc i)) found.1 ∙ key-slot keys i key parts.1 e

-- a filter asks for or against each of its rows
pub length-asked : (filter : Column Bool) → length (asked filter) ≡ length filter.rows
length-asked filter = length-map (slots_of filter) (λ shown. unwrap_or shown false) ∙ length-map filter.rows slot
