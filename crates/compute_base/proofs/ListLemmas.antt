-- Lemmas about lists: of which one element more is taken, and of what is made of the elements of others.
use Rattle.std.proofs.Common.{◌≡◌, ℕ, zero, suc, ◌+◌, List, [], ◌∷◌, ◌++◌, length, map, min, take}
use Rattle.std.proofs.Common.{slice_get, Option, Some, None, arith, refl, sym, ap, ap₂, ◌∙◌}
use Rattle.std.specs.List.{zip}
use Rattle.std.proofs.lemmas.List.{length-map}
use Rattle.std.proofs.lemmas.Slice.Zip.{length-zip}
use Rattle.arrow_types.proofs.CallerLemmas.{take-next}
use Rattle.arrow_column.specs.Combined.{of_pairs}
use Rattle.compute_base.specs.Slots.{combine_valid, pairwise}

-- ---- one element more

-- a list that goes on by the next element of another
pub next-taken : {Z : Type 0} (zs vs : List Z) (i : ℕ) (z : Z) → slice_get zs i ≡ Some z → vs ≡ take i zs
    → vs ++ z ∷ [] ≡ take (i + 1) zs
next-taken zs vs i z found so_far = ap (λ front. front ++ z ∷ []) so_far ∙ sym (take-next zs i z found)

-- ---- what is made of elements

pub length-of_pairs : {X Y Z : Type 0} (f : X → Y → Z) (xs : List X) (ys : List Y)
    → length (of_pairs f xs ys) ≡ min (length xs) (length ys)
length-of_pairs {X} {Y} f xs ys = length-map (zip xs ys) (λ (pair : X × Y). f pair.0 pair.1) ∙ length-zip xs ys

-- ---- what is made of the two elements at each index

pub length-pairwise : {X Y Z : Type 0} (f : X → Y → Z) (xs : List X) (ys : List Y)
    → length (pairwise f xs ys) ≡ min (length xs) (length ys)
length-pairwise f [] ys = omega arith
length-pairwise f (x ∷ xs) [] = omega arith
length-pairwise f (x ∷ xs) (y ∷ ys) = omega (arith, length-pairwise f xs ys)

no-other : {X Y Z : Type 0} (f : X → Y → Z) (x : Option X) → None ≡ combine_valid f x None
no-other f None = refl
no-other f (Some x) = refl

pub get-pairwise : {X Y Z : Type 0} (f : X → Y → Z) (xs : List X) (ys : List Y) (i : ℕ)
    → slice_get (pairwise f xs ys) i ≡ combine_valid f (slice_get xs i) (slice_get ys i)
get-pairwise f [] ys i = refl
get-pairwise f (x ∷ xs) [] zero = refl
get-pairwise f (x ∷ xs) [] (suc i) = no-other f (slice_get xs i)
get-pairwise f (x ∷ xs) (y ∷ ys) zero = refl
get-pairwise f (x ∷ xs) (y ∷ ys) (suc i) = get-pairwise f xs ys i

-- of elements that are made of others
pub pairwise-maps : {W X Y Z : Type 0} (f : X → Y → Z) (g : W → X) (h : W → Y) (ws : List W)
    → pairwise f (map g ws) (map h ws) ≡ map (λ w. f (g w) (h w)) ws
pairwise-maps f g h [] = refl
pairwise-maps f g h (w ∷ ws) = ap (λ rest. f (g w) (h w) ∷ rest) (pairwise-maps f g h ws)

-- and of which more is made
pub map-pairwise : {X Y Z W : Type 0} (g : Z → W) (f : X → Y → Z) (xs : List X) (ys : List Y)
    → map g (pairwise f xs ys) ≡ pairwise (λ x y. g (f x y)) xs ys
map-pairwise g f [] ys = refl
map-pairwise g f (x ∷ xs) [] = refl
map-pairwise g f (x ∷ xs) (y ∷ ys) = ap (λ rest. g (f x y) ∷ rest) (map-pairwise g f xs ys)

-- in which the two are exchanged, and of which the same is made
pub pairwise-swapped : {X Y Z : Type 0} (f : X → Y → Z) (g : Y → X → Z) → ((x : X) (y : Y) → f x y ≡ g y x)
    → (xs : List X) (ys : List Y) → pairwise f xs ys ≡ pairwise g ys xs
pairwise-swapped f g same [] [] = refl
pairwise-swapped f g same [] (y ∷ ys) = refl
pairwise-swapped f g same (x ∷ xs) [] = refl
pairwise-swapped f g same (x ∷ xs) (y ∷ ys) = ap₂ (λ z rest. z ∷ rest) (same x y) (pairwise-swapped f g same xs ys)

pub pairwise-same : {X Y Z : Type 0} (f g : X → Y → Z) → ((x : X) (y : Y) → f x y ≡ g x y) → (xs : List X)
    (ys : List Y) → pairwise f xs ys ≡ pairwise g xs ys
pairwise-same f g same [] ys = refl
pairwise-same f g same (x ∷ xs) [] = refl
pairwise-same f g same (x ∷ xs) (y ∷ ys) = ap₂ (λ z rest. z ∷ rest) (same x y) (pairwise-same f g same xs ys)
