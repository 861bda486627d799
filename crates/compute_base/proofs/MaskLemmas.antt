-- Lemmas about masks, as the marks of as many slots: all are set where there is none.
use Rattle.std.proofs.Common.{◌≡◌, ℕ, zero, suc, ◌<◌, ◌&&◌, ◌||◌, min, Bool, true, false, if◌then◌else◌}
use Rattle.std.proofs.Common.{List, [], ◌∷◌, length, map, replicate, slice_get, Option, Some, None, is_some, refl, sym, ap}
use Rattle.std.proofs.Common.{ap₂, ◌∙◌, arith, true≢false}
use Rattle.std.specs.Prelude.{IsTrue}
use Rattle.std.specs.List.{list_all, zip}
use Rattle.std.proofs.lemmas.List.{length-map, length-replicate}
use Rattle.std.proofs.lemmas.Option.{cond_some}
use Rattle.arrow_types.proofs.CallerLemmas.{and-true}
use Rattle.arrow_memory.specs.Rows.{FitsMask, Row, rows_of}
use Rattle.arrow_column.specs.Column.{ColumnWith, IsColumn, mask_of, marks_of}
use Rattle.arrow_column.specs.Masks.{marks_under}
use Rattle.compute_base.specs.Slots.{FitEachOther, both_masks}
use Rattle.compute_base.proofs.ListLemmas.{length-of_pairs}

-- the marks of rows, and those that two lists both have set
abbrev pub marks : {X : Type 0} → List (Row X) → List Bool
marks rows = map (λ row. row.1) rows

abbrev pub in_both : List Bool → List Bool → List Bool
in_both xs ys = map (λ pair. pair.0 && pair.1) (zip xs ys)

pub length-in_both : (xs ys : List Bool) → length (in_both xs ys) ≡ min (length xs) (length ys)
length-in_both xs ys = length-of_pairs (λ x y. x && y) xs ys

-- ---- which marks are set

-- the marks of rows that are all valid
pub set-marks : {X : Type 0} (rows : List (Row X)) → IsTrue (list_all (λ row. row.1) rows)
    → marks rows ≡ replicate (length rows) true
set-marks [] valid = refl
set-marks ((x, true) ∷ rows) valid = ap (λ rest. true ∷ rest) (set-marks rows valid)
set-marks ((x, false) ∷ rows) valid = absurd (true≢false (sym valid))

pub all-set : {X : Type 0} (rows : List (Row X)) (i : ℕ) → IsTrue (list_all (λ row. row.1) rows) → i < length rows
    → slice_get (marks rows) i ≡ Some true
all-set [] i valid low = absurd (omega (arith, low))
all-set ((x, true) ∷ rows) zero valid low = refl
all-set ((x, true) ∷ rows) (suc i) valid low = all-set rows i valid (omega (arith, low))
all-set ((x, false) ∷ rows) i valid low = absurd (true≢false (sym valid))

-- ---- the mask of a column

module _ {A X : Type 0} (column : ColumnWith A X) where
  pub length-mask : (mask : List Bool) → mask_of column ≡ Some mask → length mask ≡ length column.rows
  length-mask mask e = ap length (sym (cond_some column.held (marks_of column) mask e).1)
      ∙ length-map column.rows (λ row. row.1)

-- ---- the marks of slots by a mask

held-under : {X : Type 0} (held : Bool) (rows : List (Row X)) → (held ≡ false → IsTrue (list_all (λ row. row.1) rows))
    → marks_under (if held then Some (marks rows) else None) (length rows) ≡ marks rows
held-under true rows valid = refl
held-under false rows valid = sym (set-marks rows (valid refl))

length-held : {X : Type 0} (held : Bool) (rows : List (Row X))
    → length (marks_under (if held then Some (marks rows) else None) (length rows)) ≡ length rows
length-held true rows = length-map rows (λ row. row.1)
length-held false rows = length-replicate (length rows) true

-- by the mask of a column of n slots
module _ {A X : Type 0} (column : ColumnWith A X) (n : ℕ) (count : n ≡ length column.rows) where
  pub column-under : IsColumn column → marks_under (mask_of column) n ≡ marks_of column
  column-under is_column = ap (marks_under (mask_of column)) count ∙ held-under column.held column.rows is_column

  pub length-under : length (marks_under (mask_of column) n) ≡ n
  length-under = ap (λ m. length (marks_under (mask_of column) m)) count ∙ length-held column.held column.rows ∙ sym count

-- marks beside as many that are all set
and-set : (xs : List Bool) (n : ℕ) → length xs ≡ n → in_both xs (replicate n true) ≡ xs
and-set [] n e = refl
and-set (x ∷ xs) zero e = absurd (omega (arith, e))
and-set (x ∷ xs) (suc n) e = ap₂ (λ m rest. m ∷ rest) (and-true x) (and-set xs n (omega (arith, e)))

set-and : (ys : List Bool) (n : ℕ) → length ys ≡ n → in_both (replicate n true) ys ≡ ys
set-and [] zero e = refl
set-and [] (suc n) e = refl
set-and (y ∷ ys) zero e = absurd (omega (arith, e))
set-and (y ∷ ys) (suc n) e = ap (λ rest. y ∷ rest) (set-and ys n (omega (arith, e)))

-- by two masks of n slots each: those that are set by both
module _ (lhs rhs : Option (List Bool)) (n : ℕ) (left : length (marks_under lhs n) ≡ n)
    (right : length (marks_under rhs n) ≡ n) where
  abbrev UnderBoth : Option (List Bool) → Option (List Bool) → Type 0
  UnderBoth xs ys = marks_under (both_masks xs ys) n ≡ in_both (marks_under xs n) (marks_under ys n)

  pub both-under : UnderBoth lhs rhs
  both-under = by-cases lhs rhs left right
    where
      by-cases : (xs ys : Option (List Bool)) → length (marks_under xs n) ≡ n → length (marks_under ys n) ≡ n
          → UnderBoth xs ys
      by-cases (Some xs) (Some ys) p q = refl
      by-cases (Some xs) None p q = sym (and-set xs n p)
      by-cases None (Some ys) p q = sym (set-and ys n q)
      by-cases None None p q = sym (set-and (replicate n true) n q)

  pub length-both : length (marks_under (both_masks lhs rhs) n) ≡ n
  length-both = omega (arith, left, right, ap length both-under, length-in_both (marks_under lhs n) (marks_under rhs n))

-- a mask of n slots fits n values, and n further marks
pub fits-under : {S : Type 0} (values : List S) (mask : Option (List Bool)) (n : ℕ) → length (marks_under mask n) ≡ n
    → n ≡ length values → FitsMask values mask
fits-under values (Some mask) n p count = p ∙ count
fits-under values None n p count = tt

pub fits-marks : (mask : Option (List Bool)) (set : List Bool) (n : ℕ) → length (marks_under mask n) ≡ n
    → n ≡ length set → FitEachOther mask (Some set)
fits-marks (Some mask) set n p count = p ∙ count
fits-marks None set n p count = tt

-- the rows of values without a mask
bare-rows : {S : Type 0} (values : List S) → rows_of values None ≡ zip values (replicate (length values) true)
bare-rows [] = refl
bare-rows (x ∷ values) = ap (λ rest. (x, true) ∷ rest) (bare-rows values)

-- the rows of n values by a mask
pub rows-under : {S : Type 0} (values : List S) (mask : Option (List Bool)) (n : ℕ) → n ≡ length values
    → rows_of values mask ≡ zip values (marks_under mask n)
rows-under values (Some mask) n count = refl
rows-under values None n count = bare-rows values ∙ ap (λ m. zip values (replicate m true)) (sym count)

-- a mask is held where either array holds one
pub held-by-either : (held holds : Bool) (xs ys : List Bool)
    → is_some (both_masks (if held then Some xs else None) (if holds then Some ys else None)) ≡ (held || holds)
held-by-either true true xs ys = refl
held-by-either true false xs ys = refl
held-by-either false true xs ys = refl
held-by-either false false xs ys = refl

pub held-by-one : (held : Bool) (xs : List Bool) → is_some (if held then Some xs else None) ≡ held
held-by-one true xs = refl
held-by-one false xs = refl
