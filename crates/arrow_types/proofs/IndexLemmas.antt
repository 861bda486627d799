-- Lemmas about the elements of lists at their indexes.
use Rattle.std.proofs.Common.{◌≡◌, ℕ, zero, suc, ◌+◌, ◌<◌, ◌⊎◌, inl, inr, List, [], ◌∷◌, ◌++◌, length, map, take, drop}
use Rattle.std.proofs.Common.{slice_get, Some, refl, sym, ap, ◌∙◌, arith, zero-add}
use Rattle.std.specs.List.{zip}
use Rattle.std.proofs.lemmas.Option.{none-some, same_Some}

-- ---- there is one

pub get-some : {X : Type 0} (xs : List X) (i : ℕ) → i < length xs → (x : X) × (slice_get xs i ≡ Some x)
get-some [] i low = absurd (omega arith)
get-some (x ∷ xs) zero low = (x, refl)
get-some (x ∷ xs) (suc i) low = get-some xs i (omega (arith, low))

-- ---- of the first of a list, and of the rest

pub get-take : {X : Type 0} (xs : List X) (n i : ℕ) → i < n → slice_get (take n xs) i ≡ slice_get xs i
get-take xs zero i low = absurd (omega (arith, low))
get-take [] (suc n) i low = refl
get-take (x ∷ xs) (suc n) zero low = refl
get-take (x ∷ xs) (suc n) (suc i) low = get-take xs n i (omega (arith, low))

pub get-drop : {X : Type 0} (xs : List X) (a i : ℕ) → slice_get (drop a xs) i ≡ slice_get xs (a + i)
get-drop xs zero i = ap (slice_get xs) (sym (zero-add i))
get-drop [] (suc a) i = refl
get-drop (x ∷ xs) (suc a) i =
    let next : suc (a + i) ≡ suc a + i = omega arith in
    get-drop xs a i ∙ ap (λ k. slice_get (x ∷ xs) k) next

-- ---- of a list with one element more

-- the last
pub get-last : {X : Type 0} (xs : List X) (y : X) → slice_get (xs ++ y ∷ []) (length xs) ≡ Some y
get-last [] y = refl
get-last (x ∷ xs) y = get-last xs y

-- one of those before, or the last
pub get-push : {X : Type 0} (xs : List X) (y : X) (i : ℕ) (x : X) → slice_get (xs ++ y ∷ []) i ≡ Some x
    → (slice_get xs i ≡ Some x) ⊎ ((i ≡ length xs) × (y ≡ x))
get-push [] y zero x at = inr (refl, same_Some y x at)
get-push [] y (suc i) x at = cc
get-push (z ∷ xs) y zero x at = inl at
get-push (z ∷ xs) y (suc i) x at = elim (get-push xs y i x at) [
  | inl before ↦ inl before
  | inr last ↦ inr (ap suc last.0, last.1)
]

-- ---- of a list that is made of others

pub get-map : {X Y : Type 0} (f : X → Y) (xs : List X) (i : ℕ) (x : X) → slice_get xs i ≡ Some x
    → slice_get (map f xs) i ≡ Some (f x)
get-map f [] i x e = absurd (cc)
get-map f (y ∷ xs) zero x e = cc
get-map f (y ∷ xs) (suc i) x e = get-map f xs i x e

pub get-zip : {X Y : Type 0} (xs : List X) (ys : List Y) (i : ℕ) (x : X) (y : Y) → slice_get xs i ≡ Some x
    → slice_get ys i ≡ Some y → slice_get (zip xs ys) i ≡ Some (x, y)
get-zip [] ys i x y e f = absurd (none-some x e)
get-zip (a ∷ xs) [] i x y e f = absurd (none-some y f)
get-zip (a ∷ xs) (b ∷ ys) zero x y e f = cc
get-zip (a ∷ xs) (b ∷ ys) (suc i) x y e f = get-zip xs ys i x y e f

-- what a function makes of the elements of two lists
pub get-combined : {X Y Z : Type 0} (f : X → Y → Z) (xs : List X) (ys : List Y) (i : ℕ) (x : X) (y : Y)
    → slice_get xs i ≡ Some x → slice_get ys i ≡ Some y
    → slice_get (map (λ pair. f pair.0 pair.1) (zip xs ys)) i ≡ Some (f x y)
get-combined f [] ys i x y e g = absurd (cc)
get-combined f (a ∷ xs) [] i x y e g = absurd (cc)
get-combined f (a ∷ xs) (b ∷ ys) zero x y e g = cc
get-combined f (a ∷ xs) (b ∷ ys) (suc i) x y e g = get-combined f xs ys i x y e g
