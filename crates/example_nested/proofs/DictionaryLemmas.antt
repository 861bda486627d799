-- Lemmas about keys.
use Rattle.std.proofs.Common.{◌≡◌, ℕ, zero, suc, ◌+◌, ◌<◌, ◌∙◌, ℤ, true, false, not, cond, List, [], ◌∷◌, length}
use Rattle.std.proofs.Common.{map, count_by, slice_get, Option, Some, None, option_map, ap, subst, arith}
use Rattle.std.specs.Prelude.{All, IfSome, IsSomeAnd, option_and_then}
use Rattle.std.proofs.lemmas.List.{length-map}
use Rattle.std.proofs.lemmas.List.Elements.{All-get_or}
use Rattle.std.proofs.lemmas.List.Sums.{count_by-le-length, sum_by-cons}
use Rattle.std.proofs.lemmas.Option.{get_or_from_slice_get, slice_get-map, slice_get_within}
use Rattle.dethrugn.specs.Column.{Column, marks_of, slots_of, stored_values}
use Rattle.dethrugn.specs.IndexKey.{index_of}
use Rattle.dethrugn.specs.Rows.{Row, slot}
use Rattle.dethrugn.proofs.CallerLemmas.Column.{shown-stored}
use Rattle.example_nested.specs.Dictionaries.{PointWithin, indexes_of}

-- no value is shown where as many marks are clear as there are rows
none-shown : {K : Type 0} (rows : List (Row K)) (i : ℕ) (key : K)
    → count_by not (map (λ (row : Row K). row.1) rows) ≡ length rows → slice_get (map slot rows) i ≡ Some (Some key) → ⊥
none-shown [] i key all e = cc
none-shown {K} ((x, true) ∷ rows) i key all e =
    let marks = map (λ (row : Row K). row.1) rows in
    let all_clear : count_by not (true ∷ marks) ≡ suc (length rows) = all in
    let same : count_by not (true ∷ marks) ≡ 0 + count_by not marks =
    sum_by-cons (λ mark. cond (not mark) 1 0) true marks in
    omega (arith, all_clear, same, count_by-le-length not marks, length-map rows (λ (row : Row K). row.1))
none-shown ((x, false) ∷ rows) zero key all e = cc
none-shown {K} ((x, false) ∷ rows) (suc i) key all e =
    let marks = map (λ (row : Row K). row.1) rows in
    let all_clear : count_by not (false ∷ marks) ≡ suc (length rows) = all in
    let more : count_by not (false ∷ marks) ≡ 1 + count_by not marks =
    sum_by-cons (λ mark. cond (not mark) 1 0) false marks in
    let rest : count_by not marks ≡ length rows = omega (arith, all_clear, more) in
    none-shown rows i key rest e

module _ {K : Type 0} (number : K → ℤ) (n : ℕ) (keys : Column K) where
  -- keys that are all null point within any values
  pub null-keys : count_by not (marks_of keys) ≡ length keys.rows → PointWithin number (slots_of keys) n
  null-keys all i key shown = absurd (none-shown keys.rows i key all shown)

  pub checked-keys : All (λ key. IsSomeAnd (index_of (number key)) (λ index. index < n)) (stored_values keys)
      → PointWithin number (slots_of keys) n
  checked-keys each i key shown =
      let stored = stored_values keys in
      let at : slice_get stored i ≡ Some key = shown-stored keys.rows i key shown in
      subst (λ k. IsSomeAnd (index_of (number k)) (λ index. index < n)) (get_or_from_slice_get stored i key key at)
      (All-get_or (λ k. IsSomeAnd (index_of (number k)) (λ index. index < n)) stored i key
      (slice_get_within stored i key at) each)

-- the index of a key, if there is one, is within the values
pub index-within : (index : Option ℕ) (n : ℕ) → IsSomeAnd index (λ k. k < n) → IfSome index (λ k. k < n)
index-within (Some k) n within = within
index-within None n within = tt

-- a null key has no index
pub null-index : {K : Type 0} (number : K → ℤ) (keys : List (Option K)) (i : ℕ) → slice_get keys i ≡ Some None
    → slice_get (indexes_of number keys) i ≡ Some None
null-index number keys i null =
    let to_index = option_and_then (λ key. index_of (number key)) in
    slice_get-map to_index keys i ∙ ap (option_map to_index) null
