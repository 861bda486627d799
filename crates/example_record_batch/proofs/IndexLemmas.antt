-- Lemmas about lists by their indexes.
use Rattle.std.proofs.Common.{◌≡◌, ℕ, zero, suc, ◌+◌, ◌<◌, ◌≤◌, Bool, true, false, List, [], ◌∷◌, ◌++◌}
use Rattle.std.proofs.Common.{length, map, take, drop, slice_get, Option, Some, refl, ap, ◌∙◌, sym}
use Rattle.std.proofs.Common.{add-zero, arith}
use Rattle.std.specs.Prelude.{All, flat_map, sum_by}
use Rattle.std.proofs.lemmas.List.Sums.{sum_by-cons}
use Rattle.std.proofs.lemmas.List.{map-append}
use Rattle.std.specs.List.{filter_map, range_with_len}
use Rattle.std.proofs.lemmas.List.FromFn.{length-range_with_len, take-map-range_with_len}
use Rattle.std.proofs.lemmas.List.{drop_at, length-map}
use Rattle.std.proofs.lemmas.List.Elements.{All-head, All-tail}
use Rattle.std.proofs.lemmas.Option.{none-some, same_Some, slice_get_within}
use Rattle.dethrugn.specs.Selection.{where_set}
use Rattle.dethrugn.proofs.CallerLemmas.Types.{all-at, get-drop, get-some}

-- lists with the same item at every index are the same
pub same-items : {X : Type 0} (xs ys : List X) → ((i : ℕ) → slice_get xs i ≡ slice_get ys i) → xs ≡ ys
same-items [] [] h = refl
same-items [] (y ∷ ys) h = absurd (none-some y (h 0))
same-items (x ∷ xs) [] h = absurd (none-some x (sym (h 0)))
same-items (x ∷ xs) (y ∷ ys) h =
    let first = same_Some x y (h 0) in let rest = same-items xs ys (λ i. h (suc i)) in cc

-- a function of the numbers from b on has the values of another at the numbers ks
pub same-values : {X : Type 0} (f g : ℕ → X) (ks : List ℕ) (b : ℕ)
    → ((i k : ℕ) → slice_get ks i ≡ Some k → f (b + i) ≡ g k)
    → map f (range_with_len b (length ks)) ≡ map g ks
same-values f g [] b h = refl
same-values f g (k ∷ ks) b h =
    let first : f b ≡ g k = rw add-zero at (h 0 k refl) in
    let rest = same-values f g ks (b + 1) (λ i j e. (ap f (omega arith) ∙ h (suc i) j e)) in
    cc

-- the item at an index of the numbers from a on
pub get-range : (a n i k : ℕ) → slice_get (range_with_len a n) i ≡ Some k → (i < n) × (k ≡ a + i)
get-range a zero i k e = absurd (none-some k e)
get-range a (suc n) zero k e = let h = same_Some a k e in (omega arith, omega (arith, h))
get-range a (suc n) (suc i) k e = let h = get-range (a + 1) n i k e in (omega (arith, h.0), omega (arith, h.1))

pub range-append : (a n m : ℕ) → range_with_len a (n + m) ≡ range_with_len a n ++ range_with_len (a + n) m
range-append a zero m = let e : a + 0 ≡ a = omega arith in let f : 0 + m ≡ m = omega arith in rw (e, f)
range-append a (suc n) m =
    let e : suc n + m ≡ suc (n + m) = omega arith in
    let f : a + suc n ≡ a + 1 + n = omega arith in
    rw (e, f) (ap (λ ys. a ∷ ys) (range-append (a + 1) n m))

-- a cut of the values of a function
pub cut-values : {X : Type 0} (f : ℕ → X) (b m a n : ℕ) → a + n ≤ m
    → take n (drop a (map f (range_with_len b m))) ≡ map f (range_with_len (b + a) n)
cut-values f b m zero n h = rw add-zero (take-map-range_with_len f b m n (omega arith))
cut-values f b zero (suc a) n h = let e : n ≡ 0 = omega arith in absurd (omega arith)
cut-values f b (suc m) (suc a) n h =
    let e : b + suc a ≡ b + 1 + a = omega arith in
    rw e (cut-values f (b + 1) m a n (omega arith))

-- the item at an index of the marked items of a list is its item at that index of the marked indexes
pub get-where : {X : Type 0} (marks : List Bool) (xs : List X) (b i k : ℕ) → length marks ≡ length xs
    → slice_get (where_set marks (range_with_len b (length marks))) i ≡ Some k
    → (j : ℕ) × (k ≡ b + j) × (slice_get (where_set marks xs) i ≡ slice_get xs j)
get-where [] xs b i k e h = absurd (none-some k h)
get-where (mark ∷ marks) [] b i k e h = absurd (omega (arith, e))
get-where (true ∷ marks) (x ∷ xs) b zero k e h = let f = same_Some b k h in (0, omega (arith, f), refl)
get-where (true ∷ marks) (x ∷ xs) b (suc i) k e h =
    let f = get-where marks xs (b + 1) i k (omega (arith, e)) h in (suc f.0, omega (arith, f.1), f.2)
get-where (false ∷ marks) (x ∷ xs) b i k e h =
    let f = get-where marks xs (b + 1) i k (omega (arith, e)) h in (suc f.0, omega (arith, f.1), f.2)

-- an item of joined lists
pub get-left : {X : Type 0} (xs ys : List X) (i : ℕ) → i < length xs → slice_get (xs ++ ys) i ≡ slice_get xs i
get-left [] ys i h = absurd (omega arith)
get-left (x ∷ xs) ys zero h = refl
get-left (x ∷ xs) ys (suc i) h = get-left xs ys i (omega arith)

pub get-right : {X : Type 0} (xs ys : List X) (i : ℕ) → slice_get (xs ++ ys) (length xs + i) ≡ slice_get ys i
get-right [] ys i = let e : 0 + i ≡ i = omega arith in rw e
get-right (x ∷ xs) ys i = let e : suc (length xs) + i ≡ suc (length xs + i) = omega arith in rw e (get-right xs ys i)

pub get-map-some : {X Y : Type 0} (f : X → Y) (xs : List X) (k : ℕ) (y : Y) → slice_get (map f xs) k ≡ Some y
    → (x : X) × (slice_get xs k ≡ Some x) × (y ≡ f x)
get-map-some f [] k y e = absurd (none-some y e)
get-map-some f (x ∷ xs) zero y e = (x, refl, sym (same_Some (f x) y e))
get-map-some f (x ∷ xs) (suc k) y e = get-map-some f xs k y e

-- two maps that agree at every index
pub same-maps : {X Y Z : Type 0} (f : X → Z) (g : Y → Z) (xs : List X) (ys : List Y) → length xs ≡ length ys
    → ((k : ℕ) (x : X) (y : Y) → slice_get xs k ≡ Some x → slice_get ys k ≡ Some y → f x ≡ g y)
    → map f xs ≡ map g ys
same-maps f g [] [] e h = refl
same-maps f g [] (y ∷ ys) e h = absurd (omega (arith, e))
same-maps f g (x ∷ xs) [] e h = absurd (omega (arith, e))
same-maps f g (x ∷ xs) (y ∷ ys) e h =
    let first = h 0 x y refl refl in
    let rest = same-maps f g xs ys (omega (arith, e)) (λ k. h (suc k)) in
    cc

pub range-values : {X : Type 0} (f g : ℕ → X) (b c n : ℕ) → ((i : ℕ) → i < n → f (b + i) ≡ g (c + i))
    → map f (range_with_len b n) ≡ map g (range_with_len c n)
range-values f g b c n h =
    let e = same-values f g (range_with_len c n) b
    (λ i k e. let w = get-range c n i k e in h i w.0 ∙ ap g (sym w.1)) in
    rw length-range_with_len at e

-- the items at index i of several lists
abbrev pub row : {C : Type 0} → List (List C) → ℕ → List (Option C)
row css i = map (λ cs. slice_get cs i) css

-- the rows of columns that are joined from those of several tables are the rows of each table
module _ {B C : Type 0} (columns : B → List (List C)) (size : B → ℕ) where
  -- the columns at index k, joined
  abbrev pub joined : List B → ℕ → List C
  joined tables k = flat_map (λ cs. cs) (filter_map (λ table. slice_get (columns table) k) tables)

  joined-cons : (table : B) (tables : List B) (k : ℕ) (cs : List C) → slice_get (columns table) k ≡ Some cs
      → joined (table ∷ tables) k ≡ cs ++ joined tables k
  joined-cons table tables k cs e = rw e

  pub joined-rows : (width : ℕ) (tables : List B) (css : List (List C)) → length css ≡ width
      → All (λ table. All (λ cs. length cs ≡ size table) (columns table)) tables
      → All (λ table. length (columns table) ≡ width) tables
      → ((k : ℕ) (cs : List C) → slice_get css k ≡ Some cs → cs ≡ joined tables k)
      → map (row css) (range_with_len 0 (sum_by size tables))
      ≡ flat_map (λ table. map (row (columns table)) (range_with_len 0 (size table))) tables
  joined-rows width [] css same long wide at = refl
  joined-rows width (table ∷ tables) css same long wide at =
      let again = joined-rows width tables rest (length-map css (drop (size table)) ∙ same)
      (All-tail (λ table. All (λ cs. length cs ≡ size table) (columns table)) table tables long)
      (All-tail (λ table. length (columns table) ≡ width) table tables wide) at-rest in
      rw (sum_by-cons size table tables, range-append 0 (size table) (sum_by size tables))
      (map-append (row css) (range_with_len 0 (size table)) _ ∙ (λ i. head i ++ (tail ∙ again) i))
    where
      rest : List (List C)
      rest = map (drop (size table)) css

      parts : (k : ℕ) (cs ds : List C) → slice_get css k ≡ Some cs → slice_get (columns table) k ≡ Some ds
          → (cs ≡ ds ++ joined tables k) × (length ds ≡ size table)
      parts k cs ds p q = (
        at k cs p ∙ joined-cons table tables k ds q,
        all-at (λ ds. length ds ≡ size table) (columns table) k ds (All-head (λ table. All
            (λ cs. length cs ≡ size table) (columns table)) table tables long) q,
      )

      same-width : length (columns table) ≡ length css
      same-width = All-head (λ table. length (columns table) ≡ width) table tables wide ∙ sym same

      head : map (row css) (range_with_len 0 (size table)) ≡ map (row (columns table)) (range_with_len 0 (size table))
      head = range-values (row css) (row (columns table)) 0 0 (size table)
          (λ i h. same-maps _ _ css (columns table) (sym same-width)
          (λ k cs ds p q. let w = parts k cs ds p q in rw w.0 (get-left ds _ (0 + i) (omega (arith, w.1, h)))))

      tail : map (row css) (range_with_len (0 + size table) (sum_by size tables))
          ≡ map (row rest) (range_with_len 0 (sum_by size tables))
      tail =
          range-values (row css) (row rest) (0 + size table) 0 (sum_by size tables)
          (λ i h. same-maps _ _ css rest (sym (length-map css (drop (size table)))) (λ k cs ds p q.
          let w = get-map-some (drop (size table)) css k ds q in
          let e : cs ≡ w.0 = same_Some cs w.0 (sym p ∙ w.1) in
          let f : 0 + size table + i ≡ size table + (0 + i) = omega arith in
          rw (f, w.2, e) (sym (get-drop w.0 (size table) (0 + i)))))

      at-rest : (k : ℕ) (cs : List C) → slice_get rest k ≡ Some cs → cs ≡ joined tables k
      at-rest k cs p =
          let w = get-map-some (drop (size table)) css k cs p in
          let d = get-some (columns table) k (omega (arith, same-width, slice_get_within css k w.0 w.1)) in
          let e = parts k w.0 d.0 w.1 d.1 in
          w.2 ∙ ap (drop (size table)) e.0 ∙ drop_at d.0 (joined tables k) (size table) e.1
