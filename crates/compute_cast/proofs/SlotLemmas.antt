-- Lemmas about what is made of the slot at an index.
use Rattle.std.proofs.Common.{◌≡◌, ◌∙◌, ℕ, ◌<◌, Bool, true, false, not, length, Option, Some, None}
use Rattle.std.proofs.Common.{option_and_then, slice_get, ap, sym}
use Rattle.arrow_column.specs.Column.{ColumnWith, marks_of, slots_of, stored_values}
use Rattle.arrow_column.proofs.CallerLemmas.{null-at, slot-at}

module _ {A S X : Type 0} (c : ColumnWith A S) (i : ℕ) (is_null : Bool) (f : S → Option X) (slot : Option S)
    (marked : slice_get (marks_of c) i ≡ Some (not is_null)) (found : slice_get (slots_of c) i ≡ Some slot) where
  pub null-made : i < length c.rows → is_null ≡ true → None ≡ option_and_then f slot
  null-made low is =
      let same : Some None ≡ Some slot = sym (null-at c.rows i low (marked ∙ ap (λ b. Some (not b)) is)) ∙ found in
      let e : None ≡ slot = cc in
      ap (option_and_then f) e

  pub value-made : (value : S) → slice_get (stored_values c) i ≡ Some value → is_null ≡ false
      → f value ≡ option_and_then f slot
  value-made value stored is =
      let same : Some (Some value) ≡ Some slot =
      sym (slot-at c.rows i value true stored (marked ∙ ap (λ b. Some (not b)) is)) ∙ found in
      let e : Some value ≡ slot = cc in
      ap (option_and_then f) e
