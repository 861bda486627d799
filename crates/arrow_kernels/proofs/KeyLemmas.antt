-- Lemmas for the laws: what keys take that are indexes of a list, or each index once.
use Rattle.std.proofs.Common.{◌≡◌, ℕ, ◌<◌, ◌^◌, pos, List, [], ◌∷◌, map, length, Some, refl, ap, ap₂, sym}
use Rattle.std.proofs.Common.{subst, ◌∙◌, arith, slice_get, if◌then◌else◌, None}
use Rattle.std.specs.Prelude.{option_and_then, slice_index_or}
use Rattle.std.specs.List.{All, cons_option, range_with_len}
use Rattle.std.specs.List.Sorted.{IsPermutation}
use Rattle.std.proofs.lemmas.Bool.{lt-ltb}
use Rattle.std.proofs.lemmas.List.Elements.{All-from_get_or, All-head, All-tail}
use Rattle.std.proofs.lemmas.List.FromFn.{fill_by_all, get_or-range_with_len, length-range_with_len}
use Rattle.std.proofs.lemmas.List.Sorted.{All-permutation, IsPermutation-map}
use Rattle.std.proofs.lemmas.Option.{slice_get-get_or}
use Rattle.arrow_bytes.specs.Selection.{at_key, at_keys}

module _ {X : Type 0} (xs : List X) where
  all-indexes : All (λ key. key < length xs) (range_with_len 0 (length xs))
  all-indexes = All-from_get_or (λ key. key < length xs) (range_with_len 0 (length xs)) 0 (λ i within.
      let at : i < length xs = omega (arith, length-range_with_len 0 (length xs), within) in
      omega (arith, at, get_or-range_with_len 0 (length xs) i 0 at))

  -- keys that are each index once are indexes
  pub permuted-within : (keys : List ℕ) → IsPermutation (range_with_len 0 (length xs)) keys
      → All (λ key. key < length xs) keys
  permuted-within keys once = All-permutation (λ key. key < length xs) _ keys once all-indexes

module _ {X : Type 0} (xs : List X) (default : X) (small : length xs < 2 ^ 64) where
  abbrev at : ℕ → X
  at key = slice_index_or xs key default

  key-at : (key : ℕ) → key < length xs → at_key xs (pos key) ≡ Some (at key)
  key-at key within =
      ap (λ t. option_and_then (slice_get xs) (if t then Some key else None))
      (lt-ltb key (2 ^ 64) (omega (arith, small, within)))
      ∙ slice_get-get_or xs key default within

  pub keyed : (keys : List ℕ) → All (λ key. key < length xs) keys
      → at_keys (λ key. pos key) keys xs ≡ map (λ key. slice_index_or xs key default) keys
  keyed [] all = refl
  keyed (key ∷ keys) all =
      ap₂ cons_option (key-at key (All-head (λ n. n < length xs) key keys all))
      (keyed keys (All-tail (λ n. n < length xs) key keys all))

  pub keyed-permuted : (keys : List ℕ) → IsPermutation (range_with_len 0 (length xs)) keys
      → IsPermutation xs (at_keys (λ key. pos key) keys xs)
  keyed-permuted keys once =
      subst (λ ys. IsPermutation xs ys)
      (sym (keyed keys (permuted-within xs keys once)))
      (subst (λ ys. IsPermutation ys (map at keys))
      (sym (fill_by_all at xs (length xs) default refl (λ key within. refl)))
      (IsPermutation-map at (range_with_len 0 (length xs)) keys once))
