-- Lemmas about parts that fail validation.
use Rattle.std.proofs.Common.{◌≡◌, ℕ, ◌≤◌, Bool, List, Option, length, subst, ap, ap₂, ◌∙◌, sym, arith}
use Rattle.arrow_types.specs.Types.{LogicalType, Refusal}
use Rattle.arrow_types.specs.declared.physical_type.PhysicalType.{PhysicalType}
use Rattle.arrow_memory.specs.Offsets.{last_of}
use Rattle.arrow_column.specs.Validation.{IsFirstFailure, accept}
use Rattle.arrow_check.specs.Pieces.{items_of}
use Rattle.arrow_check.specs.Texts.{not_text}
use Rattle.arrow_bytes.specs.Kinds.{AreItems}
use Rattle.arrow_bytes.specs.Validation.{array_tests, builder_tests, typed_tests, values_tests}

-- the test that failed among the first of an array's is the first that failed of all
pub array-first : (text : Bool) (layout : PhysicalType) (wrong_type : Refusal) (t : LogicalType)
    (offsets bytes : List ℕ) (mask : Option (List Bool)) (r : Refusal)
    → IsFirstFailure (values_tests text offsets bytes accept) r
    → IsFirstFailure (array_tests text layout wrong_type t offsets bytes mask) r
array-first text layout wrong_type t offsets bytes mask r first =
    (first.0, λ within. ((first.1 within).0, λ items. absurd ((first.1 within).1 items)))

-- the test that failed among the first of a builder's is the first that failed of all
pub builder-first : (text : Bool) (layout : PhysicalType) (wrong_type : Refusal) (t : LogicalType)
    (offsets bytes : List ℕ) (mask : Option (List Bool)) (r : Refusal)
    → IsFirstFailure (typed_tests text layout wrong_type t offsets bytes accept) r
    → IsFirstFailure (builder_tests text layout wrong_type t offsets bytes mask) r
builder-first text layout wrong_type t offsets bytes mask r first = (
  first.0,
  λ ends. let next = first.1 ends in
      (next.0, λ items. ((next.1 items).0, λ right. absurd ((next.1 items).1 right))),
)

-- offsets and bytes, as they are read for two tests of which the second failed
module _ (text : Bool) (offsets bytes os read bs : List ℕ) (n : ℕ) (r : Refusal) (e : os ≡ offsets)
    (long : n ≡ length bytes) (e' : read ≡ offsets) (f : bs ≡ bytes) (failed : (AreItems text (items_of read bs)
    → ⊥) × (r ≡ not_text)) where
  none : AreItems text (items_of offsets bytes) → ⊥
  none items = failed.0 (subst (AreItems text) (sym (ap₂ items_of e' f)) items)

  pub values-failed : last_of os ≤ n → IsFirstFailure (values_tests text offsets bytes accept) r
  values-failed within =
      let inside : last_of offsets ≤ length bytes = omega (arith, ap last_of e, long, within) in
      (λ outside. absurd (outside inside), λ _. (λ _. failed.1, none))

  pub typed-failed : (layout : PhysicalType) (wrong_type : Refusal) (t : LogicalType) → last_of os ≡ n
      → IsFirstFailure (typed_tests text layout wrong_type t offsets bytes accept) r
  typed-failed layout wrong_type t ends =
      let at_end : last_of offsets ≡ length bytes = sym (ap last_of e) ∙ ends ∙ long in
      (λ elsewhere. absurd (elsewhere at_end), λ _. (λ _. failed.1, λ items. absurd (none items)))
