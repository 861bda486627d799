-- Lemmas about comparisons of the values at each index of two lists, and of a list and a value.
use Rattle.std.proofs.Common.{◌≡◌, ℕ, zero, suc, min, Bool, List, [], ◌∷◌, Some, slice_get, length, map, ap}
use Rattle.std.proofs.lemmas.List.{length-map}
use Rattle.arrow_types.proofs.CallerLemmas.{get-combined, get-map}
use Rattle.arrow_column.specs.Combined.{of_pairs}
use Rattle.compute_comparison.specs.Comparison.{compare_scalar, compare_values}
use Rattle.compute_base.proofs.CallerLemmas.{length-of_pairs}

module _ {X R : Type 0} (test : R → Bool) (cmp : X → X → R) where
  pub length-pairs : (xs ys : List X) → length (compare_values test cmp xs ys) ≡ min (length xs) (length ys)
  length-pairs xs ys = length-of_pairs (λ x y. test (cmp x y)) xs ys

  pub length-scalar : (xs : List X) (value : X) → length (compare_scalar test cmp xs value) ≡ length xs
  length-scalar xs value = length-map xs (λ x. test (cmp x value))

  -- what two values at one index give
  pub pair_at : (xs ys : List X) (i : ℕ) (x y : X) → slice_get xs i ≡ Some x → slice_get ys i ≡ Some y
      → slice_get (compare_values test cmp xs ys) i ≡ Some (test (cmp x y))
  pair_at xs ys i x y e f = get-combined (λ a b. test (cmp a b)) xs ys i x y e f

  pub scalar_at : (xs : List X) (value : X) (i : ℕ) (x : X) → slice_get xs i ≡ Some x
      → slice_get (compare_scalar test cmp xs value) i ≡ Some (test (cmp x value))
  scalar_at xs value i x e = get-map (λ a. test (cmp a value)) xs i x e

  -- what a test makes of what comparing two values at one index returns
  pub tested-pair : (xs ys : List X) (i : ℕ) (r : R) → slice_get (of_pairs cmp xs ys) i ≡ Some r
      → slice_get (compare_values test cmp xs ys) i ≡ Some (test r)
  tested-pair [] ys i r e = absurd (cc)
  tested-pair (x ∷ xs) [] i r e = absurd (cc)
  tested-pair (x ∷ xs) (y ∷ ys) zero r e =
      let here : cmp x y ≡ r = cc in
      ap (λ s. Some (test s)) here
  tested-pair (x ∷ xs) (y ∷ ys) (suc i) r e = tested-pair xs ys i r e

  pub tested-scalar : (xs : List X) (value : X) (i : ℕ) (r : R) → slice_get (map (λ x. cmp x value) xs) i ≡ Some r
      → slice_get (compare_scalar test cmp xs value) i ≡ Some (test r)
  tested-scalar [] value i r e = absurd (cc)
  tested-scalar (x ∷ xs) value zero r e =
      let here : cmp x value ≡ r = cc in
      ap (λ s. Some (test s)) here
  tested-scalar (x ∷ xs) value (suc i) r e = tested-scalar xs value i r e
