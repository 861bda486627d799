-- Lemmas about lists of values.
use Rattle.std.proofs.Common.{◌≡◌, ℕ, zero, suc, List, [], length, map, replicate, None, Some, refl, ap, ap₂}
use Rattle.std.proofs.Common.{take, ◌++◌, ◌-◌, ◌∙◌, arith}
use Rattle.arrow_types.specs.Types.{LogicalType}
use Rattle.arrow_column.specs.Column.{Column, append_slots, column_of_parts, empty_column, without_needless_mask}
use Rattle.arrow_column.proofs.CallerLemmas.{all-bare, appended-values, needless-bare, same-slots}

-- the array of values that were appended one after the other
pub made-of-values : {X : Type 0} (default : X) (t : LogicalType) (values : List X) (start grown array : Column X)
    → start ≡ empty_column t → grown ≡ append_slots default start (map Some values)
    → array ≡ without_needless_mask grown → array ≡ column_of_parts t values None
made-of-values default t values start grown array e f h =
    h
    ∙ ap without_needless_mask (f ∙ ap (λ column. append_slots default column (map Some values)) e
    ∙ appended-values default (empty_column t) values)
    ∙ needless-bare (column_of_parts t values None) (λ bare. all-bare values) refl

pub long-replicate : {X : Type 0} (n : ℕ) (x : X) → length (replicate n x) ≡ n
long-replicate zero x = refl
long-replicate (suc n) x = ap suc (long-replicate n x)

-- an empty list that was filled up
none-before : {X : Type 0} (n : ℕ) (xs : List X) → take n (let none : List X = [] in none) ++ xs ≡ xs
none-before zero xs = refl
none-before (suc n) xs = refl

pub filled : {X : Type 0} (xs ys : List X) (n m : ℕ) (x z : X) → xs ≡ [] → m ≡ 0 → x ≡ z
    → ys ≡ take n xs ++ replicate (n - m) x → ys ≡ replicate n z
filled xs ys n m x z e f g h =
    let whole : n - m ≡ n = omega (arith, f) in
    h ∙ ap (λ zs. take n zs ++ replicate (n - m) x) e ∙ none-before n (replicate (n - m) x) ∙ ap₂ replicate whole g

pub ruleset slot_steps = (same-slots, long-replicate)
