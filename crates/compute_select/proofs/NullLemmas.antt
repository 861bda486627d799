-- Nulls where two arrays are equal.
use Rattle.std.proofs.Common.{◌≡◌, ◌∙◌, ◌&&◌, ℕ, zero, suc, min, Bool, true, false, if◌then◌else◌, not, List, [], ◌∷◌, map, length, nat_eq, Option, Some, None, is_some, slice_get, refl, ap, ap₂, sym, arith}
use mathlib.Core.Bool.{beq}
use Rattle.std.specs.Cmp.Lexicographic.{pointwise, slice_cmp, texts_ties}
use Rattle.std.specs.List.{zip}
use Rattle.std.specs.Ordering.{bool_cmp, is_eq, nat_cmp}
use Rattle.std.proofs.lemmas.List.{length-map}
use Rattle.std.proofs.lemmas.Slice.Zip.{length-zip}
use Rattle.arrow_memory.specs.Rows.{Row, slot}
use Rattle.arrow_column.specs.Combined.{of_pairs}
use Rattle.compute_select.specs.Selects.{null_if_equal, slots_null_if}
use Rattle.compute_select.proofs.ShownLemmas.{StoresShown}

shown-if : {X : Type 0} (b : Bool) (x : X) → is_some (if b then None else Some x) ≡ not b
shown-if true x = refl
shown-if false x = refl

stores-if : {X : Type 0} (b : Bool) (v : X) (vs : List X) (slots : List (Option X)) → StoresShown vs slots
    → StoresShown (v ∷ vs) ((if b then None else Some v) ∷ slots)
stores-if true v vs slots stores = stores
stores-if false v vs slots stores = (refl, stores)

module _ {X : Type 0} (same : X → X → Bool) where
  differing-mark : (v w : X) (m n : Bool)
      → (m && not (n && same v w)) ≡ is_some (null_if_equal same (slot (v, m)) (slot (w, n)))
  differing-mark v w true true = sym (shown-if (same v w) v)
  differing-mark v w true false = refl
  differing-mark v w false n = refl

  -- the mark of a slot of the result, by the marks of both slots and whether their stored values are equal
  pub differing-at : (xs ys : List (Row X)) (i : ℕ) (m n e : Bool)
      → slice_get (map (λ (row : Row X). row.1) xs) i ≡ Some m → slice_get (map (λ (row : Row X). row.1) ys) i ≡ Some n
      → slice_get (of_pairs same (map (λ (row : Row X). row.0) xs) (map (λ (row : Row X). row.0) ys)) i ≡ Some e
      → slice_get (map is_some (slots_null_if same (map slot xs) (map slot ys))) i ≡ Some (m && not (n && e))
  differing-at [] ys i m n e first second third = absurd (cc)
  differing-at (x ∷ xs) [] i m n e first second third = absurd (cc)
  differing-at ((v, p) ∷ xs) ((w, q) ∷ ys) zero m n e first second third =
      let left : p ≡ m = cc in
      let right : q ≡ n = cc in
      let equal : same v w ≡ e = cc in
      ap Some (sym (differing-mark v w p q) ∙ ap₂ (λ k l. k && not (l && same v w)) left right
      ∙ ap (λ f. m && not (n && f)) equal)
  differing-at (x ∷ xs) (y ∷ ys) (suc i) m n e first second third = differing-at xs ys i m n e first second third

  pub length-differing : (xs ys : List (Row X))
      → length (map is_some (slots_null_if same (map slot xs) (map slot ys))) ≡ min (length xs) (length ys)
  length-differing xs ys =
      length-map (slots_null_if same (map slot xs) (map slot ys)) is_some
      ∙ length-map (zip (map slot xs) (map slot ys)) (λ (pair : Option X × Option X). null_if_equal same pair.0 pair.1)
      ∙ length-zip (map slot xs) (map slot ys) ∙ ap₂ min (length-map xs slot) (length-map ys slot)

  -- the stored values of the first array are those of the result
  pub stores-differing : (xs ys : List (Row X)) → length xs ≡ length ys
      → StoresShown (map (λ (row : Row X). row.0) xs) (slots_null_if same (map slot xs) (map slot ys))
  stores-differing [] ys long = tt
  stores-differing (x ∷ xs) [] long = absurd (omega (arith, long))
  stores-differing ((v, true) ∷ xs) ((w, true) ∷ ys) long =
      stores-if (same v w) v (map (λ (row : Row X). row.0) xs) (slots_null_if same (map slot xs) (map slot ys))
      (stores-differing xs ys (omega (arith, long)))
  stores-differing ((v, true) ∷ xs) ((w, false) ∷ ys) long = (refl, stores-differing xs ys (omega (arith, long)))
  stores-differing ((v, false) ∷ xs) (y ∷ ys) long = stores-differing xs ys (omega (arith, long))

-- ---- tests of equality that agree

-- the slots that stay by one of two tests that agree are those that stay by the other
pub differing-as : {X : Type 0} (same other : X → X → Bool) → ((x y : X) → same x y ≡ other x y)
    → (xs ys : List (Option X)) → slots_null_if same xs ys ≡ slots_null_if other xs ys
differing-as same other agree xs ys = λ i. slots_null_if (λ x y. agree x y i) xs ys

pub booleans-agree : (a b : Bool) → is_eq (bool_cmp a b) ≡ beq a b
booleans-agree true true = refl
booleans-agree true false = refl
booleans-agree false true = refl
booleans-agree false false = refl

pub items-agree : (xs ys : List ℕ) → is_eq (slice_cmp nat_cmp xs ys) ≡ pointwise nat_eq xs ys
items-agree xs ys = sym (texts_ties xs ys)
