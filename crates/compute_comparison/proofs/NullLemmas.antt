-- Lemmas about which slots are null, and which are equal where two nulls are.
use Rattle.std.proofs.Common.{◌≡◌, ◌&&◌, ◌||◌, ℕ, zero, suc, Bool, true, false, not, List, [], ◌∷◌, length, map}
use Rattle.std.proofs.Common.{min, replicate, Option, Some, None, is_none, is_some, slice_get, refl, sym, ap, ap₂, ◌∙◌}
use Rattle.std.proofs.Common.{true≢false}
use Rattle.std.specs.Prelude.{IsTrue}
use Rattle.std.specs.List.{list_all, zip}
use Rattle.std.specs.Option.{option_eq}
use Rattle.std.proofs.lemmas.List.{length-map}
use Rattle.std.proofs.lemmas.Slice.Zip.{length-zip}
use Rattle.std.proofs.lemmas.Option.{cond_some}
use Rattle.arrow_memory.specs.Rows.{Row, slot}
use Rattle.arrow_column.specs.Column.{ColumnWith, IsColumn, mask_of, slots_of}
use Rattle.arrow_column.specs.Combined.{of_pairs}
use Rattle.arrow_column.proofs.CallerLemmas.{valid_by_held}

abbrev values : {X : Type 0} → List (Row X) → List X
values rows = map (λ row. row.0) rows

abbrev marks : {X : Type 0} → List (Row X) → List Bool
marks rows = map (λ row. row.1) rows

abbrev AllValid : {X : Type 0} → List (Row X) → Type 0
AllValid rows = IsTrue (list_all (λ row. row.1) rows)

-- ---- which slots are null

null_marked : {X : Type 0} (rows : List (Row X)) → map not (marks rows) ≡ map is_none (map slot rows)
null_marked [] = refl
null_marked ((x, true) ∷ rows) = ap (λ rest. false ∷ rest) (null_marked rows)
null_marked ((x, false) ∷ rows) = ap (λ rest. true ∷ rest) (null_marked rows)

valid_marked : {X : Type 0} (rows : List (Row X)) → marks rows ≡ map is_some (map slot rows)
valid_marked [] = refl
valid_marked ((x, true) ∷ rows) = ap (λ rest. true ∷ rest) (valid_marked rows)
valid_marked ((x, false) ∷ rows) = ap (λ rest. false ∷ rest) (valid_marked rows)

null_bare : {X : Type 0} (rows : List (Row X)) → AllValid rows
    → replicate (length rows) false ≡ map is_none (map slot rows)
null_bare [] valid = refl
null_bare ((x, true) ∷ rows) valid = ap (λ rest. false ∷ rest) (null_bare rows valid)
null_bare ((x, false) ∷ rows) valid = absurd (true≢false (sym valid))

valid_bare : {X : Type 0} (rows : List (Row X)) → AllValid rows
    → replicate (length rows) true ≡ map is_some (map slot rows)
valid_bare [] valid = refl
valid_bare ((x, true) ∷ rows) valid = ap (λ rest. true ∷ rest) (valid_bare rows valid)
valid_bare ((x, false) ∷ rows) valid = absurd (true≢false (sym valid))

module _ {A X : Type 0} (column : ColumnWith A X) where
  pub null_held : (mask : List Bool) → mask_of column ≡ Some mask → map not mask ≡ map is_none (slots_of column)
  null_held mask e = ap (map not) (sym (cond_some column.held (marks column.rows) mask e).1) ∙ null_marked column.rows

  pub valid_held : (mask : List Bool) → mask_of column ≡ Some mask → mask ≡ map is_some (slots_of column)
  valid_held mask e = sym (cond_some column.held (marks column.rows) mask e).1 ∙ valid_marked column.rows

  pub null_unheld : IsColumn column → mask_of column ≡ None
      → replicate (length column.rows) false ≡ map is_none (slots_of column)
  null_unheld is_column e = null_bare column.rows (valid_by_held column.held column.rows is_column e)

  pub valid_unheld : IsColumn column → mask_of column ≡ None
      → replicate (length column.rows) true ≡ map is_some (slots_of column)
  valid_unheld is_column e = valid_bare column.rows (valid_by_held column.held column.rows is_column e)

-- ---- equal slots, at an index of two arrays, and of an array and a value

module _ {X : Type 0} (test : X → X → Bool) where
  abbrev equal : List (Row X) → List (Row X) → List Bool
  equal xs ys = map (λ pair. option_eq test pair.0 pair.1) (zip (map slot xs) (map slot ys))

  abbrev equal_to : List (Row X) → X → List Bool
  equal_to xs value = map (λ s. option_eq test s (Some value)) (map slot xs)

  equal-rows : (x y : Row X) → ((test x.0 y.0 && (x.1 && y.1)) || not (x.1 || y.1)) ≡ option_eq test (slot x) (slot y)
  equal-rows (x, true) (y, true) = elim (test x y) as (λ b. ((b && true) || false) ≡ b) [ true ↦ refl | false ↦ refl ]
  equal-rows (x, true) (y, false) = elim (test x y) as (λ b. ((b && false) || false) ≡ false) [
    | true ↦ refl
    | false ↦ refl
  ]
  equal-rows (x, false) (y, true) = elim (test x y) as (λ b. ((b && false) || false) ≡ false) [
    | true ↦ refl
    | false ↦ refl
  ]
  equal-rows (x, false) (y, false) = elim (test x y) as (λ b. ((b && false) || true) ≡ true) [
    | true ↦ refl
    | false ↦ refl
  ]

  equal-value : (x : Row X) (value : X) → (x.1 && test x.0 value) ≡ option_eq test (slot x) (Some value)
  equal-value (x, true) value = refl
  equal-value (x, false) value = refl

  pub equal-slots-at : (xs ys : List (Row X)) (i : ℕ) (m n e : Bool) → slice_get (marks xs) i ≡ Some m
      → slice_get (marks ys) i ≡ Some n → slice_get (of_pairs test (values xs) (values ys)) i ≡ Some e
      → slice_get (equal xs ys) i ≡ Some ((e && (m && n)) || not (m || n))
  equal-slots-at [] ys i m n e first second third = absurd (cc)
  equal-slots-at (x ∷ xs) [] i m n e first second third = absurd (cc)
  equal-slots-at ((v, p) ∷ xs) ((w, q) ∷ ys) zero m n e first second third =
      let left : p ≡ m = cc in
      let right : q ≡ n = cc in
      let same : test v w ≡ e = cc in
      ap Some (sym (equal-rows (v, p) (w, q)) ∙ ap₂ (λ k l. (test v w && (k && l)) || not (k || l)) left right
      ∙ ap (λ t. (t && (m && n)) || not (m || n)) same)
  equal-slots-at (x ∷ xs) (y ∷ ys) (suc i) m n e first second third = equal-slots-at xs ys i m n e first second third

  pub equal-scalar-at : (xs : List (Row X)) (value : X) (i : ℕ) (m e : Bool) → slice_get (marks xs) i ≡ Some m
      → slice_get (map (λ x. test x value) (values xs)) i ≡ Some e → slice_get (equal_to xs value) i ≡ Some (m && e)
  equal-scalar-at [] value i m e first second = absurd (cc)
  equal-scalar-at ((v, p) ∷ xs) value zero m e first second =
      let left : p ≡ m = cc in
      let same : test v value ≡ e = cc in
      ap Some (sym (equal-value (v, p) value) ∙ ap₂ ◌&&◌ left same)
  equal-scalar-at (x ∷ xs) value (suc i) m e first second = equal-scalar-at xs value i m e first second

  pub length-tested_slots : (holds : Bool → Bool) (xs ys : List (Row X))
      → length (map holds (equal xs ys)) ≡ min (length xs) (length ys)
  length-tested_slots holds xs ys =
      length-map (equal xs ys) holds
      ∙ length-map (zip (map slot xs) (map slot ys)) (λ (pair : Option X × Option X). option_eq test pair.0 pair.1)
      ∙ length-zip (map slot xs) (map slot ys) ∙ ap₂ min (length-map xs slot) (length-map ys slot)

  pub length-tested_scalar : (holds : Bool → Bool) (xs : List (Row X)) (value : X)
      → length (map holds (equal_to xs value)) ≡ length xs
  length-tested_scalar holds xs value =
      length-map (equal_to xs value) holds
      ∙ length-map (map slot xs) (λ (s : Option X). option_eq test s (Some value)) ∙ length-map xs slot
