-- Whether two columns have the same data type and the same slots, as a test: what `==` of arrays answers.
use Rattle.std.specs.Prelude.{◌≡◌, List, Option, Bool, ◌&&◌}
use Rattle.std.specs.Bool.{Decides}
use Rattle.std.proofs.Common.{ap}
use Rattle.arrow_types.specs.Decisions.{both-Decides}
use Rattle.arrow_types.specs.Types.{LogicalType}
use Rattle.arrow_types.specs.TypeEquality.{same_type, same_type-Decides}
use Rattle.arrow_column.specs.Column.{ColumnWith, slots_of}
use Rattle.arrow_column.specs.SlotEquality.{same_slots, same_slots-Decides}

-- a data type and slots
abbrev pub TypedSlots : Type 0 → Type 0
TypedSlots S = LogicalType × List (Option S)

-- those of a column
abbrev pub typed_slots : {A S : Type 0} → ColumnWith A S → TypedSlots S
typed_slots column = (column.data_type, slots_of column)

-- whether types and slots are equal, those of stored values by a test
abbrev pub same_typed : {S : Type 0} → (S → S → Bool) → TypedSlots S → TypedSlots S → Bool
same_typed test x y = same_type x.0 y.0 && same_slots test x.1 y.1

-- whether two columns have equal types and equal slots, by a test of stored values
abbrev pub same_typed_slots : {A B S : Type 0} → (S → S → Bool) → ColumnWith A S → ColumnWith B S → Bool
same_typed_slots test a b = same_typed test (typed_slots a) (typed_slots b)

-- where the test decides equality of values, this one decides equality of types and slots
module _ {S : Type 0} (test : S → S → Bool) (decides : (x y : S) → Decides (test x y) (x ≡ y)) where
  pub same_parts-Decides : (x y : TypedSlots S) → Decides (same_typed test x y) ((x.0 ≡ y.0) × (x.1 ≡ y.1))
  same_parts-Decides x y = both-Decides (same_type-Decides x.0 y.0) (same_slots-Decides test decides x.1 y.1)

  pub same_typed-Decides : (x y : TypedSlots S) → Decides (same_typed test x y) (x ≡ y)
  same_typed-Decides x y =
      let d = same_parts-Decides x y in
      (λ h. let p = d.0 h in λ i. (p.0 i, p.1 i), λ e. d.1 (ap (λ z. z.0) e, ap (λ z. z.1) e))
