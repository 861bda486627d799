-- Lemmas about lists as wholes.
use Rattle.std.proofs.Common.{◌≡◌, ℕ, zero, suc, ◌+◌, ◌<◌, Bool, true, false, not, cond, count_by, List, [], ◌∷◌, ◌++◌}
use Rattle.std.proofs.Common.{length, map, replicate, slice_get, slice_set, Some, refl, sym, subst, ap, ◌∙◌, arith}
use Rattle.std.proofs.Common.{length-append, mul-zero, zero-add}
use Rattle.std.specs.Prelude.{All, flat_map}
use Rattle.std.specs.List.{concat, list_all, range_with_len, zip}
use Rattle.std.proofs.lemmas.List.{append-nil, map-append, map-id}
use Rattle.std.proofs.lemmas.List.Elements.{All-from_get_or}
use Rattle.std.proofs.lemmas.List.Folds.{concat-append, sum_by-replicate}
use Rattle.std.proofs.lemmas.List.FromFn.{get_or-range_with_len, length-range_with_len, map-range_with_len_more}
use Rattle.std.proofs.lemmas.List.Sums.{sum_by-cons}
use Rattle.std.proofs.lemmas.Option.{get_or_from_slice_get, slice_get_within}

-- ---- what is made of each element

pub map-map : {X Y Z : Type 0} (g : Y → Z) (f : X → Y) (xs : List X) → map g (map f xs) ≡ map (λ x. g (f x)) xs
map-map g f [] = refl
map-map g f (x ∷ xs) = ap (λ rest. g (f x) ∷ rest) (map-map g f xs)

pub map-flat_map : {X Y Z : Type 0} (g : Y → Z) (f : X → List Y) (xs : List X)
    → map g (flat_map f xs) ≡ flat_map (λ x. map g (f x)) xs
map-flat_map g f [] = refl
map-flat_map g f (x ∷ xs) = map-append g (f x) (flat_map f xs) ∙ ap (λ ys. map g (f x) ++ ys) (map-flat_map g f xs)

pub map-replicate : {X Y : Type 0} (f : X → Y) (n : ℕ) (x : X) → map f (replicate n x) ≡ replicate n (f x)
map-replicate f zero x = refl
map-replicate f (suc n) x = ap (λ rest. f x ∷ rest) (map-replicate f n x)

pub map-slice_set : {X Y : Type 0} (f : X → Y) (xs : List X) (i : ℕ) (x : X)
    → map f (slice_set xs i x) ≡ slice_set (map f xs) i (f x)
map-slice_set f [] i x = refl
map-slice_set f (y ∷ xs) zero x = refl
map-slice_set f (y ∷ xs) (suc i) x = ap (λ rest. f y ∷ rest) (map-slice_set f xs i x)

-- what is made of two lists that are made of one is made of that
pub combined-maps : {X Y Z W : Type 0} (combine : Y → Z → W) (f : X → Y) (g : X → Z) (xs : List X)
    → map (λ pair. combine pair.0 pair.1) (zip (map f xs) (map g xs)) ≡ map (λ x. combine (f x) (g x)) xs
combined-maps combine f g [] = refl
combined-maps combine f g (x ∷ xs) = ap (λ rest. combine (f x) (g x) ∷ rest) (combined-maps combine f g xs)

-- ---- what holds of each element

pub all-at : {X : Type 0} (P : X → Type 0) (xs : List X) (i : ℕ) (x : X) → All P xs → slice_get xs i ≡ Some x → P x
all-at P xs i x all e = subst P (get_or_from_slice_get xs i x x e) (all i x (slice_get_within xs i x e))

-- ---- lists of lists

-- how many elements joined lists have
pub length-joined : (lists more : List (List ℕ))
    → length (concat (lists ++ more)) ≡ length (concat lists) + length (concat more)
length-joined lists more = ap length (concat-append lists more) ∙ length-append (concat lists) (concat more)

pub length-push : (lists : List (List ℕ)) (list : List ℕ)
    → length (concat (lists ++ list ∷ [])) ≡ length (concat lists) + length list
length-push lists list = length-joined lists (list ∷ [])
    ∙ ap (λ xs. length (concat lists) + length xs) (append-nil list)

-- ---- marks

-- marks that are all set
pub set-mark : (n i : ℕ) → i < n → slice_get (replicate n true) i ≡ Some true
set-mark zero i within = absurd (omega arith)
set-mark (suc n) zero within = refl
set-mark (suc n) (suc i) within = set-mark n i (omega arith)

pub no-clear : (n : ℕ) → 0 ≡ count_by not (replicate n true)
no-clear n = sym (sum_by-replicate (λ mark. cond (not mark) 1 0) n true ∙ mul-zero n)

-- no clear mark, and all marks set
pub all-by_count : (marks : List Bool) → (count_by not marks ≡ 0 → list_all (λ mark. mark) marks ≡ true)
    × ((count_by not marks ≡ 0 → ⊥) → list_all (λ mark. mark) marks ≡ false)
all-by_count [] = (λ _. refl, λ h. absurd (h refl))
all-by_count (true ∷ marks) =
    let same : count_by not (true ∷ marks) ≡ count_by not marks = sum_by-cons (λ m. cond (not m) 1 0) true marks
    ∙ zero-add (count_by not marks) in
    (λ e. (all-by_count marks).0 (sym same ∙ e), λ h. (all-by_count marks).1 (λ e. h (same ∙ e)))
all-by_count (false ∷ marks) =
    let same : count_by not (false ∷ marks) ≡ 1 + count_by not marks =
    sum_by-cons (λ m. cond (not m) 1 0) false marks in
    (λ e. absurd (omega arith), λ h. refl)

-- ---- the numbers below a number

pub range-more : (n : ℕ) → range_with_len 0 (n + 1) ≡ range_with_len 0 n ++ n ∷ []
range-more n =
    sym (map-id (range_with_len 0 (n + 1))) ∙ map-range_with_len_more (λ x. x) 0 n n (zero-add n)
    ∙ ap (λ xs. xs ++ n ∷ []) (map-id (range_with_len 0 n))

pub range-below : (n : ℕ) → All (λ k. k < n) (range_with_len 0 n)
range-below n = All-from_get_or (λ k. k < n) (range_with_len 0 n) 0 (λ i within.
    let at : i < n = omega (arith, length-range_with_len 0 n, within) in
    omega (arith, at, get_or-range_with_len 0 n i 0 at))
