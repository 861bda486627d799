-- Lemmas about arrays that are made of other arrays, slot by slot: what their parts make.
use Rattle.std.proofs.Common.{◌≡◌, ◌&&◌, Bool, true, false, List, [], ◌∷◌, length, map, min, Option, is_some, option_map}
use Rattle.std.proofs.Common.{refl, sym, ap, ap₂, ◌∙◌, arith, subst}
use Rattle.std.specs.List.{zip}
use Rattle.std.proofs.lemmas.List.{length-map}
use Rattle.arrow_types.specs.Types.{LogicalType}
use Rattle.arrow_memory.specs.Rows.{FitsMask, Row, rows_of, slot}
use Rattle.arrow_column.specs.Column.{Column, ColumnWith, IsColumn, column_of_parts, mask_of, marks_of, slots_of, stored_values}
use Rattle.arrow_column.specs.Combined.{of_pairs}
use Rattle.arrow_column.specs.Masks.{marks_under}
use Rattle.compute_base.specs.Slots.{CombinesSlots, MapsSlots, both_masks, combine_valid, pairwise}
use Rattle.compute_base.proofs.ListLemmas.{length-of_pairs, length-pairwise}
use Rattle.compute_base.proofs.MaskLemmas.{both-under, column-under, fits-under, held-by-either, held-by-one, in_both}
use Rattle.compute_base.proofs.MaskLemmas.{length-both, length-under, marks, rows-under}

-- the stored values of rows
abbrev pub values : {X : Type 0} → List (Row X) → List X
values rows = map (λ row. row.0) rows

-- ---- arrays that are made of two

module _ {X Y Z : Type 0} (f : X → Y → Z) where
  both-shown : (x : Row X) (y : Row Y) → slot (f x.0 y.0, x.1 && y.1) ≡ combine_valid f (slot x) (slot y)
  both-shown (x, true) (y, true) = refl
  both-shown (x, true) (y, false) = refl
  both-shown (x, false) (y, m) = refl

  combined-slots : (xs : List (Row X)) (ys : List (Row Y))
      → map slot (zip (of_pairs f (values xs) (values ys)) (in_both (marks xs) (marks ys)))
      ≡ pairwise (combine_valid f) (map slot xs) (map slot ys)
  combined-slots [] ys = refl
  combined-slots (x ∷ xs) [] = refl
  combined-slots (x ∷ xs) (y ∷ ys) = ap₂ (λ s rest. s ∷ rest) (both-shown x y) (combined-slots xs ys)

-- the number of slots of an array that is made of two, and of one
pub count-combined : {A B X Y Z : Type 0} (combine : Option X → Option Y → Option Z) (lhs : ColumnWith A X)
    (rhs : ColumnWith B Y) (made : Column Z) → slots_of made ≡ pairwise combine (slots_of lhs) (slots_of rhs)
    → length made.rows ≡ min (length lhs.rows) (length rhs.rows)
count-combined combine lhs rhs made shown = omega (
  arith,
  ap length shown,
  length-map made.rows slot,
  length-pairwise combine (slots_of lhs) (slots_of rhs),
  length-map lhs.rows slot,
  length-map rhs.rows slot,
)

pub count-mapped : {A X Z : Type 0} (change : Option X → Option Z) (array : ColumnWith A X) (made : Column Z)
    → slots_of made ≡ map change (slots_of array) → length made.rows ≡ length array.rows
count-mapped change array made shown =
    sym (length-map made.rows slot) ∙ ap length shown ∙ length-map (slots_of array) change ∙ length-map array.rows slot

-- two columns of equally many slots, and their masks as marks
module _ {A B X Y : Type 0} (lhs : ColumnWith A X) (rhs : ColumnWith B Y) (same : length lhs.rows ≡ length rhs.rows) where
  left-long : length (marks_under (mask_of lhs) (length lhs.rows)) ≡ length lhs.rows
  left-long = length-under lhs (length lhs.rows) refl

  right-long : length (marks_under (mask_of rhs) (length lhs.rows)) ≡ length lhs.rows
  right-long = length-under rhs (length lhs.rows) same

  pub length-masks : length (marks_under (both_masks (mask_of lhs) (mask_of rhs)) (length lhs.rows)) ≡ length lhs.rows
  length-masks = length-both (mask_of lhs) (mask_of rhs) (length lhs.rows) left-long right-long

  pub masks-under : IsColumn lhs → IsColumn rhs
      → marks_under (both_masks (mask_of lhs) (mask_of rhs)) (length lhs.rows) ≡ in_both (marks_of lhs) (marks_of rhs)
  masks-under is_left is_right =
      both-under (mask_of lhs) (mask_of rhs) (length lhs.rows) left-long right-long
      ∙ ap₂ in_both (column-under lhs (length lhs.rows) refl is_left) (column-under rhs (length lhs.rows) same is_right)

  pub length-pairs : {Z : Type 0} (f : X → Y → Z) → length (of_pairs f (stored_values lhs) (stored_values rhs)) ≡ length lhs.rows
  length-pairs f = omega (
    arith,
    same,
    length-of_pairs f (stored_values lhs) (stored_values rhs),
    length-map lhs.rows (λ row. row.0),
    length-map rhs.rows (λ row. row.0),
  )

-- the parts of an array that is made of two: values, and the mask of both
module _ {A B X Y Z : Type 0} (f : X → Y → Z) (lhs : ColumnWith A X) (rhs : ColumnWith B Y) (made : List Z)
    (validity : Option (List Bool)) (is : made ≡ of_pairs f (stored_values lhs) (stored_values rhs))
    (mask_is : validity ≡ both_masks (mask_of lhs) (mask_of rhs)) (same : length lhs.rows ≡ length rhs.rows) where
  length-made : length lhs.rows ≡ length made
  length-made = sym (ap length is ∙ length-pairs lhs rhs same f)

  pub combination-fits : FitsMask made validity
  combination-fits = subst (FitsMask made) (sym mask_is)
      (fits-under made (both_masks (mask_of lhs) (mask_of rhs)) (length lhs.rows) (length-masks lhs rhs same) length-made)

  pub makes-combination : IsColumn lhs → IsColumn rhs → (t u : LogicalType) → u ≡ t → (array : Column Z)
      → array ≡ column_of_parts u made validity → CombinesSlots t (combine_valid f) lhs rhs array
  makes-combination is_left is_right t u type_is array array_is =
      let shown : slots_of array ≡ pairwise (combine_valid f) (slots_of lhs) (slots_of rhs) =
      ap (λ column. map slot column.rows) array_is ∙ ap (λ mask. map slot (rows_of made mask)) mask_is
      ∙ ap (map slot) (rows-under made (both_masks (mask_of lhs) (mask_of rhs)) (length lhs.rows) length-made)
      ∙ ap₂ (λ vs ms. map slot (zip vs ms)) is (masks-under lhs rhs same is_left is_right)
      ∙ combined-slots f lhs.rows rhs.rows in
      record {
        data_type = ap (λ column. column.data_type) array_is ∙ type_is;
        count = count-combined (combine_valid f) lhs rhs array shown;
        slots = shown;
        held = ap (λ column. column.held) array_is ∙ ap is_some mask_is
            ∙ held-by-either lhs.held rhs.held (marks_of lhs) (marks_of rhs);
      }

-- ---- arrays that are made of one

module _ {X Z : Type 0} (f : X → Z) where
  one-shown : (x : Row X) → slot (f x.0, x.1) ≡ option_map f (slot x)
  one-shown (x, true) = refl
  one-shown (x, false) = refl

  mapped-slots : (xs : List (Row X)) → map slot (zip (map f (values xs)) (marks xs)) ≡ map (option_map f) (map slot xs)
  mapped-slots [] = refl
  mapped-slots (x ∷ xs) = ap₂ (λ s rest. s ∷ rest) (one-shown x) (mapped-slots xs)

-- the parts of an array that is made of one: values, and its mask
module _ {A X Z : Type 0} (f : X → Z) (column : ColumnWith A X) (made : List Z) (validity : Option (List Bool))
    (is : made ≡ map f (stored_values column)) (mask_is : validity ≡ mask_of column) where
  length-mapped-values : length column.rows ≡ length made
  length-mapped-values = sym (ap length is ∙ length-map (stored_values column) f ∙ length-map column.rows (λ row. row.0))

  pub mapped-fits : FitsMask made validity
  mapped-fits = subst (FitsMask made) (sym mask_is) (fits-under made (mask_of column) (length column.rows)
      (length-under column (length column.rows) refl) length-mapped-values)

  pub makes-mapped : IsColumn column → (t u : LogicalType) → u ≡ t → (array : Column Z)
      → array ≡ column_of_parts u made validity → MapsSlots t (option_map f) column array
  makes-mapped is_column t u type_is array array_is =
      let shown : slots_of array ≡ map (option_map f) (slots_of column) =
      ap (λ c. map slot c.rows) array_is ∙ ap (λ mask. map slot (rows_of made mask)) mask_is
      ∙ ap (map slot) (rows-under made (mask_of column) (length column.rows) length-mapped-values)
      ∙ ap₂ (λ vs ms. map slot (zip vs ms)) is (column-under column (length column.rows) refl is_column)
      ∙ mapped-slots f column.rows in
      record {
        data_type = ap (λ c. c.data_type) array_is ∙ type_is;
        count = count-mapped (option_map f) column array shown;
        slots = shown;
        held = ap (λ c. c.held) array_is ∙ ap is_some mask_is ∙ held-by-one column.held (marks_of column);
      }
