-- A transition of one entry is a step of the whole table.
use Rattle.std.proofs.Common.{◌≡◌, ◌<◌, ◌∙◌, ℕ, zero, suc, Bool, true, false, ◌==◌, if◌then◌else◌, option_and_then}
use Rattle.std.proofs.Common.{List, [], ◌∷◌, length, get_or, sym, map, replicate, slice_get, slice_set, Option, Some}
use Rattle.std.proofs.Common.{None, option_map, refl, ap, arith}
use Rattle.std.proofs.lemmas.Bool.{eqb-true, eqb-false}
use Rattle.std.proofs.lemmas.Option.{same_Some, slice_get-map}
use Rattle.arrow_types.proofs.CallerLemmas.{map-slice_set}
use Rattle.arrow_model.specs.Answer.{Answer}
use Rattle.arrow_entry.specs.Entry.{value_of}
use Rattle.arrow_model.specs.Value.{Value}
use Rattle.arrow_model.specs.Transition.{Transition}
use Rattle.arrow_model.specs.Step.{AtEntry, entry_at, other_at}

pub got : {E : Type 0} (xs : List E) (e : ℕ) (x d : E) → e < length xs → x ≡ get_or xs e d → slice_get xs e ≡ Some x
got [] e x d within is = absurd (omega arith)
got (y ∷ xs) zero x d within is = ap Some (sym is)
got (y ∷ xs) (suc e) x d within is = got xs e x d (omega arith) is

-- what was there already
pub set-same : {E : Type 0} (xs : List E) (e : ℕ) (x : E) → slice_get xs e ≡ Some x → slice_set xs e x ≡ xs
set-same [] e x is = refl
set-same (z ∷ xs) zero x is = ap (λ y. y ∷ xs) (same_Some x z (sym is))
set-same (z ∷ xs) (suc e) x is = ap (λ rest. z ∷ rest) (set-same xs e x is)

module _ {T E : Type 0} (f : E → Option (Value T)) (transition : Option (Value T) → Transition T) where
  pub at-transition : (xs ys : List E) (e : ℕ) (x y : E) (reply : Answer T) → slice_get xs e ≡ Some x → ys ≡ slice_set xs e y
      → transition (f x) reply (f y) → AtEntry (map f xs) e transition reply (map f ys)
  at-transition xs ys e x y reply is set h =
      rw (slice_get-map f xs e ∙ ap (option_map f) is) (f y, h, ap (map f) set ∙ map-slice_set f xs e y)

  pub stays-transition : (xs : List E) (e : ℕ) (x : E) (reply : Answer T) → slice_get xs e ≡ Some x → transition (f x) reply (f x)
      → AtEntry (map f xs) e transition reply (map f xs)
  stays-transition xs e x reply is h = at-transition xs xs e x x reply is (sym (set-same xs e x is)) h

-- what was set there again
pub set-twice : {E : Type 0} (xs : List E) (e : ℕ) (x y : E) → slice_set (slice_set xs e x) e y ≡ slice_set xs e y
set-twice [] e x y = refl
set-twice (z ∷ xs) zero x y = refl
set-twice (z ∷ xs) (suc e) x y = ap (λ rest. z ∷ rest) (set-twice xs e x y)

by-test : {A : Type 0} (test : Bool) (x y z : A) → (test ≡ true → x ≡ y) → (test ≡ false → x ≡ z)
    → x ≡ (if test then y else z)
by-test true x y z holds fails = holds refl
by-test false x y z holds fails = fails refl

get-set : {E : Type 0} (xs : List E) (e k : ℕ) (x : E) → (e ≡ k → ⊥) → slice_get (slice_set xs e x) k ≡ slice_get xs k
get-set [] e k x other = refl
get-set (y ∷ xs) zero zero x other = absurd (other refl)
get-set (y ∷ xs) zero (suc k) x other = refl
get-set (y ∷ xs) (suc e) zero x other = refl
get-set (y ∷ xs) (suc e) (suc k) x other = get-set xs e k x (λ is. other (ap suc is))

module _ {T E : Type 0} (f : E → Option (Value T)) where
  emptied : (xs : List E) (e : ℕ) (x : E) → f x ≡ None → entry_at (map f (slice_set xs e x)) e ≡ None
  emptied [] e x empty = refl
  emptied (y ∷ xs) zero x empty = empty
  emptied (y ∷ xs) (suc e) x empty = emptied xs e x empty

  -- once an entry was emptied, another one is what it was
  pub others-stay : (xs : List E) (e k : ℕ) (x : E) → f x ≡ None
      → entry_at (map f (slice_set xs e x)) k ≡ other_at (map f xs) e k
  others-stay xs e k x empty =
      by-test (e == k) (entry_at (map f (slice_set xs e x)) k) None (entry_at (map f xs) k)
      (λ same. rw (← eqb-true e k same) (emptied xs e x empty))
      (λ other. ap (option_and_then (λ (entry : Option (Value T)). entry)) (slice_get-map f (slice_set xs e x) k
      ∙ ap (option_map f) (get-set xs e k x (eqb-false e k other)) ∙ sym (slice_get-map f xs k)))

-- empty entries
pub none-yet : (T O : Type 0) (n : ℕ)
    → map (option_map (value_of {T = T} {O = O})) (replicate n None) ≡ replicate n None
none-yet T O zero = refl
none-yet T O (suc n) = ap (λ rest. None ∷ rest) (none-yet T O n)
