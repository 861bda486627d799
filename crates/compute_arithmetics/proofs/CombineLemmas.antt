-- Lemmas about arrays whose slots are null where an operation on two has no result: what their parts make.
use Rattle.std.proofs.Common.{◌≡◌, ◌&&◌, Bool, true, false, List, [], ◌∷◌, length, map, Option, Some, None, is_some}
use Rattle.std.proofs.Common.{unwrap_or, refl, sym, ap, ap₂, ◌∙◌, subst}
use Rattle.std.specs.List.{zip}
use Rattle.std.proofs.lemmas.List.{length-map}
use Rattle.arrow_types.specs.Types.{LogicalType}
use Rattle.arrow_column.specs.Column.{Column, IsColumn, column_of_parts, mask_of, marks_of, stored_values}
use Rattle.arrow_column.specs.Masks.{marks_under}
use Rattle.arrow_memory.specs.Rows.{FitsMask, Row, rows_of, slot}
use Rattle.compute_base.specs.Slots.{FitEachOther, both_masks, stored_of, valid_of}
use Rattle.compute_base.proofs.CallerLemmas.{both-under, fits-marks, fits-under, held-with, in_both, length-both}
use Rattle.compute_base.proofs.CallerLemmas.{length-masks, length-pairs, marks, masks-under, rows-under, values}
use Rattle.compute_arithmetics.specs.Arithmetic.{CombinesValuesIf, combine_valid_if, of_pairs}

-- what an outcome stores shows it
pub outcome-slot : {Z : Type 0} (default : Z) (o : Option Z) → slot (unwrap_or o default, is_some o) ≡ o
outcome-slot default None = refl
outcome-slot default (Some z) = refl

module _ {X : Type 0} (default : X) (make : X → X → Option X) where
  both-shown : (x y : Row X) → slot (unwrap_or (make x.0 y.0) default, (x.1 && y.1) && is_some (make x.0 y.0))
      ≡ combine_valid_if make (slot x) (slot y)
  both-shown (x, true) (y, true) = outcome-slot default (make x y)
  both-shown (x, true) (y, false) = refl
  both-shown (x, false) (y, m) = refl

  checked-slots : (xs ys : List (Row X))
      → map slot (zip (stored_of default (of_pairs make (values xs) (values ys)))
      (in_both (in_both (marks xs) (marks ys)) (valid_of (of_pairs make (values xs) (values ys)))))
      ≡ map (λ pair. combine_valid_if make pair.0 pair.1) (zip (map slot xs) (map slot ys))
  checked-slots [] ys = refl
  checked-slots (x ∷ xs) [] = refl
  checked-slots (x ∷ xs) (y ∷ ys) = ap₂ (λ s rest. s ∷ rest) (both-shown x y) (checked-slots xs ys)

-- the parts of an array of the outcomes on two: what they store, and their marks where both slots are valid
module _ {X : Type 0} (default : X) (make : X → X → Option X) (lhs rhs : Column X) (made : List X) (set : List Bool)
    (mask : Option (List Bool)) (made_is : made ≡ stored_of default (of_pairs make (stored_values lhs) (stored_values rhs)))
    (set_is : set ≡ valid_of (of_pairs make (stored_values lhs) (stored_values rhs)))
    (mask_is : mask ≡ both_masks (mask_of lhs) (mask_of rhs)) (same : length lhs.rows ≡ length rhs.rows) where
  abbrev outcomes : List (Option X)
  outcomes = of_pairs make (stored_values lhs) (stored_values rhs)

  length-set : length set ≡ length lhs.rows
  length-set = ap length set_is ∙ length-map outcomes is_some ∙ length-pairs lhs rhs same make

  length-held : length (marks_under mask (length lhs.rows)) ≡ length lhs.rows
  length-held = ap (λ m. length (marks_under m (length lhs.rows))) mask_is ∙ length-masks lhs rhs same

  pub outcomes-fit : FitEachOther mask (Some set)
  outcomes-fit = fits-marks mask set (length lhs.rows) length-held (sym length-set)

  length-made : length lhs.rows ≡ length made
  length-made = sym (ap length made_is ∙ length-map outcomes (λ o. unwrap_or o default) ∙ length-pairs lhs rhs same make)

  module _ (validity : Option (List Bool)) (is : validity ≡ both_masks mask (Some set)) where
    pub checked-fit : FitsMask made validity
    checked-fit = subst (FitsMask made) (sym is) (fits-under made (both_masks mask (Some set)) (length lhs.rows)
        (length-both mask (Some set) (length lhs.rows) length-held length-set) length-made)

    pub makes-checked : IsColumn lhs → IsColumn rhs → (t : LogicalType) → t ≡ lhs.data_type → (array : Column X)
        → array ≡ column_of_parts t made validity → CombinesValuesIf make lhs rhs array
    makes-checked is_left is_right t type_is array array_is = record {
      data_type = ap (λ column. column.data_type) array_is ∙ type_is;
      slots = ap (λ column. map slot column.rows) array_is ∙ ap (λ m. map slot (rows_of made m)) is
          ∙ ap (map slot) (rows-under made (both_masks mask (Some set)) (length lhs.rows) length-made)
          ∙ ap (λ ms. map slot (zip made ms)) (both-under mask (Some set) (length lhs.rows) length-held length-set)
          ∙ ap (λ m. map slot (zip made (in_both (marks_under m (length lhs.rows)) set))) mask_is
          ∙ ap (λ ms. map slot (zip made (in_both ms set))) (masks-under lhs rhs same is_left is_right)
          ∙ ap₂ (λ vs ms. map slot (zip vs (in_both (in_both (marks_of lhs) (marks_of rhs)) ms))) made_is set_is
          ∙ checked-slots default make lhs.rows rhs.rows;
      held = ap (λ column. column.held) array_is ∙ ap is_some is ∙ held-with mask set;
    }
