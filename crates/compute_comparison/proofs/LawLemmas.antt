-- The opposites of comparisons, and comparisons with their operands exchanged.
use Rattle.std.proofs.Common.{◌≡◌, ◌∙◌, Bool, not, List, [], ◌∷◌, map, Option, Some, None, option_map, ap, ap₂, refl}
use Rattle.std.specs.Cmp.{IsTotalOrder}
use Rattle.std.specs.Ordering.{is_ge, is_gt, is_le, is_lt, ordering_reverse}
use Rattle.std.specs.declared.cmp.Ordering.{Ordering}
use Rattle.std.specs.declared.cmp.Ordering.TheVariants.{Less, Equal, Greater}
use Rattle.compute_base.specs.Slots.{combine_valid, pairwise}
use Rattle.compute_base.proofs.CallerLemmas.{map-pairwise, pairwise-same, pairwise-swapped}
use Rattle.compute_comparison.specs.Comparison.{compare_slot, compare_slots}
use Rattle.compute_comparison.specs.Logic.{not_slot}

not-lt : (o : Ordering) → not (is_lt o) ≡ is_ge o
not-lt Less = refl
not-lt Equal = refl
not-lt Greater = refl

not-gt : (o : Ordering) → not (is_gt o) ≡ is_le o
not-gt Less = refl
not-gt Equal = refl
not-gt Greater = refl

lt-reversed : (o : Ordering) → is_lt (ordering_reverse o) ≡ is_gt o
lt-reversed Less = refl
lt-reversed Equal = refl
lt-reversed Greater = refl

le-reversed : (o : Ordering) → is_le (ordering_reverse o) ≡ is_ge o
le-reversed Less = refl
le-reversed Equal = refl
le-reversed Greater = refl

module _ {X : Type 0} where
  -- a function of two values, and another that is its opposite
  opposite-slot : (f g : X → X → Bool) → ((x y : X) → not (f x y) ≡ g x y) → (x y : Option X)
      → not_slot (combine_valid f x y) ≡ combine_valid g x y
  opposite-slot f g same (Some x) (Some y) = ap Some (same x y)
  opposite-slot f g same (Some x) None = refl
  opposite-slot f g same None y = refl

  pub opposite : (f g : X → X → Bool) → ((x y : X) → not (f x y) ≡ g x y) → (xs ys : List (Option X))
      → map not_slot (pairwise (combine_valid f) xs ys) ≡ pairwise (combine_valid g) xs ys
  opposite f g same xs ys =
      map-pairwise not_slot (combine_valid f) xs ys
      ∙ pairwise-same (λ x y. not_slot (combine_valid f x y)) (combine_valid g) (opposite-slot f g same) xs ys

  -- and of one value
  pub opposite-scalar : (f g : X → Bool) → ((x : X) → not (f x) ≡ g x) → (xs : List (Option X))
      → map not_slot (map (option_map f) xs) ≡ map (option_map g) xs
  opposite-scalar f g same [] = refl
  opposite-scalar f g same (Some x ∷ xs) = ap₂ (λ s rest. s ∷ rest) (ap Some (same x)) (opposite-scalar f g same xs)
  opposite-scalar f g same (None ∷ xs) = ap (λ rest. None ∷ rest) (opposite-scalar f g same xs)

  exchanged-slot : (f g : X → X → Bool) → ((x y : X) → f x y ≡ g y x) → (x y : Option X)
      → combine_valid f x y ≡ combine_valid g y x
  exchanged-slot f g same (Some x) (Some y) = ap Some (same x y)
  exchanged-slot f g same (Some x) None = refl
  exchanged-slot f g same None (Some y) = refl
  exchanged-slot f g same None None = refl

  exchanged : (f g : X → X → Bool) → ((x y : X) → f x y ≡ g y x) → (xs ys : List (Option X))
      → pairwise (combine_valid f) xs ys ≡ pairwise (combine_valid g) ys xs
  exchanged f g same xs ys =
      pairwise-swapped (combine_valid f) (combine_valid g) (exchanged-slot f g same) xs ys

  module _ (cmp : X → X → Ordering) where
    pub not-less : (xs ys : List (Option X))
        → map not_slot (pairwise (compare_slots is_lt cmp) xs ys) ≡ pairwise (compare_slots is_ge cmp) xs ys
    not-less = opposite (λ x y. is_lt (cmp x y)) (λ x y. is_ge (cmp x y)) (λ x y. not-lt (cmp x y))

    pub not-greater : (xs ys : List (Option X))
        → map not_slot (pairwise (compare_slots is_gt cmp) xs ys) ≡ pairwise (compare_slots is_le cmp) xs ys
    not-greater = opposite (λ x y. is_gt (cmp x y)) (λ x y. is_le (cmp x y)) (λ x y. not-gt (cmp x y))

    pub less : (xs ys : List (Option X)) → IsTotalOrder cmp
        → pairwise (compare_slots is_lt cmp) xs ys ≡ pairwise (compare_slots is_gt cmp) ys xs
    less xs ys total = exchanged (λ x y. is_lt (cmp x y)) (λ x y. is_gt (cmp x y))
        (λ x y. ap is_lt (total.antisymm x y) ∙ lt-reversed (cmp y x)) xs ys

    pub less-or-equal : (xs ys : List (Option X)) → IsTotalOrder cmp
        → pairwise (compare_slots is_le cmp) xs ys ≡ pairwise (compare_slots is_ge cmp) ys xs
    less-or-equal xs ys total = exchanged (λ x y. is_le (cmp x y)) (λ x y. is_ge (cmp x y))
        (λ x y. ap is_le (total.antisymm x y) ∙ le-reversed (cmp y x)) xs ys

    pub not-less-scalar : (value : X) (xs : List (Option X))
        → map not_slot (map (compare_slot is_lt cmp value) xs) ≡ map (compare_slot is_ge cmp value) xs
    not-less-scalar value = opposite-scalar (λ x. is_lt (cmp x value)) (λ x. is_ge (cmp x value))
        (λ x. not-lt (cmp x value))

    pub not-greater-scalar : (value : X) (xs : List (Option X))
        → map not_slot (map (compare_slot is_gt cmp value) xs) ≡ map (compare_slot is_le cmp value) xs
    not-greater-scalar value = opposite-scalar (λ x. is_gt (cmp x value)) (λ x. is_le (cmp x value))
        (λ x. not-gt (cmp x value))
