-- Lemmas about the parts of an array of bytes that become one of text.
use Rattle.std.proofs.Common.{◌≡◌, ℕ, Bool, true, false, List, Option, refl, sym, subst}
use Rattle.arrow_types.specs.Types.{LogicalType, Refusal, physical_type}
use Rattle.arrow_column.specs.Column.{mask_of, stored_values, with_type}
use Rattle.arrow_column.specs.Validation.{IsFirstFailure, Passes}
use Rattle.arrow_check.specs.Pieces.{items_of}
use Rattle.arrow_check.specs.Texts.{AreTexts}
use Rattle.arrow_bytes.specs.Column.{ByteColumn, bytes_held, offsets_held}
use Rattle.arrow_bytes.specs.Kinds.{text_layout, wrong_text_type}
use Rattle.arrow_bytes.specs.Validation.{PassesAsArray, array_tests}
use Rattle.arrow_bytes.proofs.CallerLemmas.{items-back}
use Rattle.compute_cast.specs.Cast.{utf8_tests}
use Rattle.arrow_types.specs.declared.physical_type.PhysicalType.{PhysicalType}

-- an array's tests of the parts of a column of bytes, of which only those of its items and of its type may fail
module _ (c : ByteColumn) (large : Bool) (t : LogicalType) (offsets bytes : List ℕ) (mask : Option (List Bool))
    (o : offsets ≡ offsets_held c) (b : bytes ≡ bytes_held c) (m : mask ≡ mask_of c) where
  abbrev tests_of : List ℕ → List ℕ → Option (List Bool) → Refusal → Type 0
  tests_of os bs ms r = IsFirstFailure (array_tests true (text_layout large) wrong_text_type t os bs ms) r

  same_items : items_of (offsets_held c) (bytes_held c) ≡ stored_values c
  same_items = items-back c.around.lead (stored_values c) c.around.tail

  pub text_refused : ((text : Bool) (layout : PhysicalType) (wrong : Refusal) (d : ByteColumn)
      → PassesAsArray text layout wrong d) → (r : Refusal) → tests_of offsets bytes mask r
      → IsFirstFailure (utf8_tests large (stored_values c) t) r
  text_refused accepted r failure =
      let passes = accepted false (physical_type t) wrong_text_type (with_type c t) tt refl in
      let held : tests_of (offsets_held c) (bytes_held c) (mask_of c) r = subst (λ os. tests_of os (bytes_held c) (mask_of c) r) o
      (subst (λ bs. tests_of offsets bs (mask_of c) r) b (subst (λ ms. tests_of offsets bytes ms r) m failure)) in
      let rest = held.1 passes.0 in (
        λ no. rest.0 (λ texts. no (subst AreTexts same_items texts)),
        λ texts. (rest.1 (subst AreTexts (sym same_items) texts)).1 passes.1.1.0,
      )

  pub text_passes : Passes (array_tests true (text_layout large) wrong_text_type t offsets bytes mask)
      → Passes (utf8_tests large (stored_values c) t)
  text_passes passes =
      let held : AreTexts (items_of (offsets_held c) (bytes_held c)) = subst (λ os. AreTexts (items_of os (bytes_held c))) o
      (subst (λ bs. AreTexts (items_of offsets bs)) b passes.1.0) in
      (subst AreTexts same_items held, (passes.1.1.1.0, tt))
