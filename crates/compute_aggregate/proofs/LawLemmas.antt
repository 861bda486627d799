-- The sum of lists in a row.
use Rattle.std.proofs.Common.{◌≡◌, ◌∙◌, ℤ, pos, ◌+ℤ◌, List, [], ◌∷◌, ◌++◌, Some, None, arith, refl, sym}
use Rattle.std.specs.Prelude.{fold}
use Rattle.std.proofs.lemmas.Int.{ints}
use Rattle.std.proofs.lemmas.List.Sums.{fold-append}
use Rattle.std.proofs.lemmas.Option.{same_Some}
use Rattle.compute_aggregate.specs.Aggregates.{sum_all, sum_of}

sum-from : (a : ℤ) (xs : List ℤ) → fold (λ sum x. sum +ℤ x) a xs ≡ a +ℤ sum_all xs
sum-from a [] = omega (arith, ints)
sum-from a (x ∷ xs) = omega (arith, ints, sum-from (a +ℤ x) xs, sum-from (pos 0 +ℤ x) xs)

pub sum-joined : (xs ys : List ℤ) → sum_all (xs ++ ys) ≡ sum_all xs +ℤ sum_all ys
sum-joined xs ys = fold-append (λ sum x. sum +ℤ x) (pos 0) xs ys ∙ sum-from (sum_all xs) ys

pub no-sum : (xs : List ℤ) → sum_of xs ≡ None → xs ≡ []
no-sum [] e = refl
no-sum (x ∷ xs) e = absurd (cc)

pub one-sum : (xs : List ℤ) (sum : ℤ) → sum_of xs ≡ Some sum → sum ≡ sum_all xs
one-sum [] sum e = absurd (cc)
one-sum (x ∷ xs) sum e = sym (same_Some (sum_all (x ∷ xs)) sum e)
