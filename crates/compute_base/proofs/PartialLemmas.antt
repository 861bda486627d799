-- Lemmas about arrays whose slots are null where a function has no result: what the parts of such an array make, and
-- whether a value is the zero of its type.
use Rattle.std.proofs.Common.{◌≡◌, ◌&&◌, ℤ, pos, Bool, true, false, List, [], ◌∷◌, length, map, Option, Some, None, is_some}
use Rattle.std.proofs.Common.{refl, sym, ap, ap₂, ◌∙◌, subst}
use Rattle.std.specs.Bool.{Decides}
use Rattle.std.specs.Option.{option_and_then}
use Rattle.std.specs.List.{zip}
use Rattle.std.specs.Ordering.{int_eq}
use Rattle.std.proofs.lemmas.Bool.Decides.{Decides-int_eq, Decides-like, same_from_decides}
use Rattle.std.proofs.lemmas.List.{length-map}
use Rattle.arrow_types.specs.Types.{LogicalType}
use Rattle.arrow_column.specs.Column.{Column, IsColumn, column_of_parts, mask_of, marks_of, stored_values}
use Rattle.arrow_column.specs.Masks.{marks_under}
use Rattle.arrow_memory.specs.Rows.{FitsMask, Row, rows_of, slot}
use Rattle.compute_base.specs.Slots.{FitEachOther, MapsSlotsIf, both_masks}
use Rattle.compute_base.proofs.MaskLemmas.{both-under, column-under, fits-marks, fits-under, in_both, length-both}
use Rattle.compute_base.proofs.MaskLemmas.{length-under, marks, rows-under}
use Rattle.compute_base.proofs.SlotLemmas.{values}

-- a mask is held where there are marks
pub held-with : (mask : Option (List Bool)) (set : List Bool) → is_some (both_masks mask (Some set)) ≡ true
held-with (Some mask) set = refl
held-with None set = refl

-- values and marks that are made of the value of a slot, and show together what is made of it
module _ {X Z : Type 0} (value : X → Z) (mark : X → Bool) (make : X → Option Z)
    (shown : (x : X) → slot (value x, mark x) ≡ make x) where
  one-shown : (x : Row X) → slot (value x.0, x.1 && mark x.0) ≡ option_and_then make (slot x)
  one-shown (x, true) = shown x
  one-shown (x, false) = refl

  mapped-slots : (xs : List (Row X))
      → map slot (zip (map value (values xs)) (in_both (marks xs) (map mark (values xs))))
      ≡ map (option_and_then make) (map slot xs)
  mapped-slots [] = refl
  mapped-slots (x ∷ xs) = ap₂ (λ s rest. s ∷ rest) (one-shown x) (mapped-slots xs)

  -- the parts of an array of them
  module _ (array : Column X) (made : List Z) (set : List Bool) (mask : Option (List Bool))
      (made_is : made ≡ map value (stored_values array)) (set_is : set ≡ map mark (stored_values array))
      (mask_is : mask ≡ mask_of array) where
    length-marks : length set ≡ length array.rows
    length-marks = ap length set_is ∙ length-map (stored_values array) mark ∙ length-map array.rows (λ row. row.0)

    length-mask : length (marks_under mask (length array.rows)) ≡ length array.rows
    length-mask = ap (λ m. length (marks_under m (length array.rows))) mask_is
        ∙ length-under array (length array.rows) refl

    pub marks-fit : FitEachOther mask (Some set)
    marks-fit = fits-marks mask set (length array.rows) length-mask (sym length-marks)

    length-values : length array.rows ≡ length made
    length-values = sym (ap length made_is ∙ length-map (stored_values array) value
        ∙ length-map array.rows (λ row. row.0))

    module _ (validity : Option (List Bool)) (is : validity ≡ both_masks mask (Some set)) where
      pub checked-map-fits : FitsMask made validity
      checked-map-fits = subst (FitsMask made) (sym is) (fits-under made (both_masks mask (Some set))
          (length array.rows)
          (length-both mask (Some set) (length array.rows) length-mask length-marks) length-values)

      pub makes-checked-map : IsColumn array → (t u : LogicalType) → u ≡ t → (result : Column Z)
          → result ≡ column_of_parts u made validity → MapsSlotsIf t make array result
      makes-checked-map is_column t u type_is result result_is = record {
        data_type = ap (λ column. column.data_type) result_is ∙ type_is;
        slots = ap (λ column. map slot column.rows) result_is ∙ ap (λ m. map slot (rows_of made m)) is
            ∙ ap (map slot) (rows-under made (both_masks mask (Some set)) (length array.rows) length-values)
            ∙ ap (λ ms. map slot (zip made ms)) (both-under mask (Some set)
            (length array.rows) length-mask length-marks)
            ∙ ap (λ m. map slot (zip made (in_both (marks_under m (length array.rows)) set))) mask_is
            ∙ ap (λ ms. map slot (zip made (in_both ms set))) (column-under array (length array.rows) refl is_column)
            ∙ ap₂ (λ vs ms. map slot (zip vs (in_both (marks_of array) ms))) made_is set_is
            ∙ mapped-slots array.rows;
        held = ap (λ column. column.held) result_is ∙ ap is_some is ∙ held-with mask set;
      }

-- whether a value is the zero of its type, by its number
pub zero-number : {X : Type 0} (number : X → ℤ) (zero x : X) (b : Bool) → number zero ≡ pos 0
    → ((x y : X) → number x ≡ number y → x ≡ y) → Decides b (x ≡ zero) → b ≡ int_eq (number x) (pos 0)
zero-number number zero x b nought same d = same_from_decides b (int_eq (number x) (pos 0))
    (Decides-like b (λ (e : x ≡ zero). ap number e ∙ nought) (λ (e : number x ≡ pos 0). same x zero (e ∙ sym nought)) d)
    (Decides-int_eq (number x) (pos 0))
