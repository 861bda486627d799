-- Lemmas about pieces of lists.
use Rattle.std.proofs.Common.{◌≡◌, ℕ, zero, suc, ◌+◌, ◌-◌, ◌<◌, ◌≤◌, List, [], ◌∷◌, ◌++◌, length, map, take, drop}
use Rattle.std.proofs.Common.{get_or, slice_get, Some, refl, sym, ap, ap₂, ◌∙◌, arith, length-drop, length-take}
use Rattle.std.proofs.Common.{take-add}
use Rattle.std.specs.List.{zip}
use Rattle.std.proofs.lemmas.Grind.{take_at_read}
use Rattle.std.proofs.lemmas.List.{drop-drop, drop-map, drop_more, drop-take, get_or-drop, take-append-drop, take-map}
use Rattle.std.proofs.lemmas.List.{take_more, take-take}
use Rattle.std.proofs.lemmas.Option.{get_or_from_slice_get, slice_get_within}
use Rattle.arrow_types.proofs.IndexLemmas.{get-drop, get-take}

-- ---- the first of a list

-- one more
pub take-next : {X : Type 0} (xs : List X) (i : ℕ) (x : X) → slice_get xs i ≡ Some x
    → take (i + 1) xs ≡ take i xs ++ x ∷ []
take-next xs i x found =
    take_more xs i x (slice_get_within xs i x found)
    ∙ ap (λ y. take i xs ++ y ∷ []) (get_or_from_slice_get xs i x x found)

-- a piece more, and all pieces
pub more-pieces : {X : Type 0} (xs front piece : List X) (a n b : ℕ) → front ≡ take a xs → piece ≡ take n (drop a xs)
    → b ≡ a + n → front ++ piece ≡ take b xs
more-pieces xs front piece a n b first next e = ap₂ ◌++◌ first next ∙ sym (ap (λ m. take m xs) e ∙ take-add a n xs)

pub all-pieces : {X : Type 0} (xs front piece : List X) (a b : ℕ) → front ≡ take b xs → a ≡ b → piece ≡ drop a xs
    → front ++ piece ≡ xs
all-pieces xs front piece a b first e rest =
    ap₂ ◌++◌ (first ∙ ap (λ n. take n xs) (sym e)) rest ∙ take-append-drop a xs

-- ---- a number of elements from an index on

pub length-piece : {X : Type 0} (xs : List X) (a n : ℕ) → a + n ≤ length xs → length (take n (drop a xs)) ≡ n
length-piece xs a n within = simp (length-take, length-drop) (omega arith)

pub length-cut : {X : Type 0} (xs : List X) (a n : ℕ) → a ≤ length xs → n ≤ length xs - a
    → length (take n (drop a xs)) ≡ n
length-cut xs a n low wide = length-piece xs a n (omega (arith, low, wide))

-- a piece of a piece
pub piece-piece : {X : Type 0} (xs : List X) (o n a m : ℕ) → a + m ≤ n
    → take m (drop a (take n (drop o xs))) ≡ take m (drop (o + a) xs)
piece-piece xs o n a m within =
    let parts : n ≡ a + (n - a) = omega arith in
    let inner : m ≤ n - a = omega arith in
    ap (λ k. take m (drop a (take k (drop o xs)))) parts
    ∙ ap (take m) (drop-take a (n - a) (drop o xs))
    ∙ take-take m (n - a) (drop a (drop o xs)) inner
    ∙ ap (take m) (drop-drop a o xs)

-- what is made of each element, and of one
pub map-piece : {X Y : Type 0} (f : X → Y) (xs : List X) (a n : ℕ)
    → map f (take n (drop a xs)) ≡ take n (drop a (map f xs))
map-piece f xs a n = sym (ap (take n) (drop-map f a xs) ∙ take-map f n (drop a xs))

pub get-piece : {X Y : Type 0} (f : X → Y) (xs : List X) (a n i : ℕ) → i < n
    → slice_get (map f (take n (drop a xs))) i ≡ slice_get (map f xs) (a + i)
get-piece f xs a n i low =
    ap (λ ys. slice_get ys i) (map-piece f xs a n) ∙ get-take (drop a (map f xs)) n i low ∙ get-drop (map f xs) a i

-- ---- pairs

pub zip-take : {X Y : Type 0} (n : ℕ) (xs : List X) (ys : List Y) → zip (take n xs) (take n ys) ≡ take n (zip xs ys)
zip-take zero xs ys = refl
zip-take (suc n) [] ys = refl
zip-take (suc n) (x ∷ xs) [] = refl
zip-take (suc n) (x ∷ xs) (y ∷ ys) = ap (λ rest. (x, y) ∷ rest) (zip-take n xs ys)

zip-nil : {X Y : Type 0} (xs : List X) → zip {K = X} {X = Y} xs [] ≡ []
zip-nil [] = refl
zip-nil (x ∷ xs) = refl

pub zip-drop : {X Y : Type 0} (n : ℕ) (xs : List X) (ys : List Y) → zip (drop n xs) (drop n ys) ≡ drop n (zip xs ys)
zip-drop zero xs ys = refl
zip-drop (suc n) [] ys = refl
zip-drop (suc n) (x ∷ xs) [] = zip-nil (drop n xs)
zip-drop (suc n) (x ∷ xs) (y ∷ ys) = zip-drop n xs ys

-- ---- the elements from an index to another

pub length-between : {X : Type 0} (xs : List X) (i e : ℕ) → e ≤ length xs → length (take (e - i) (drop i xs)) ≡ e - i
length-between xs i e high = simp (length-take, length-drop) (omega (arith, high))

pub between-none : {X : Type 0} (xs : List X) (i e : ℕ) → i ≡ e → take (e - i) (drop i xs) ≡ []
between-none xs i e same = ap (λ n. take n (drop i xs)) (let none : e - i ≡ 0 = omega (arith, same) in none)

-- the first and the others, and the others and the last
pub between-first : {X : Type 0} (xs : List X) (i e : ℕ) (x : X) → i < e → e ≤ length xs → slice_get xs i ≡ Some x
    → take (e - i) (drop i xs) ≡ x ∷ take (e - (i + 1)) (drop (i + 1) xs)
between-first xs i e x low high at =
    let one : e - i ≡ suc (e - (i + 1)) = omega (arith, low) in
    let front : drop i xs ≡ x ∷ drop (i + 1) xs = drop_more xs i x (omega (arith, low, high))
    ∙ ap (λ v. v ∷ drop (i + 1) xs) (get_or_from_slice_get xs i x x at) in
    ap (λ n. take n (drop i xs)) one ∙ ap (take (suc (e - (i + 1)))) front

pub between-last : {X : Type 0} (xs : List X) (i e : ℕ) (x : X) → i < e → e ≤ length xs
    → slice_get xs (e - 1) ≡ Some x → take (e - i) (drop i xs) ≡ take (e - 1 - i) (drop i xs) ++ x ∷ []
between-last xs i e x low high at =
    let n = e - 1 - i in
    let one : e - i ≡ n + 1 = omega (arith, low) in
    let place : i + n ≡ e - 1 = omega (arith, low) in
    let long : n < length (drop i xs) = simp length-drop (omega (arith, low, high)) in
    let read : get_or (drop i xs) n x ≡ x = get_or-drop i xs n x ∙ ap (λ k. get_or xs k x) place
    ∙ get_or_from_slice_get xs (e - 1) x x at in
    ap (λ k. take k (drop i xs)) one ∙ (take_at_read (drop i xs) n x long).1
    ∙ ap (λ v. take n (drop i xs) ++ v ∷ []) read
