-- Which parts make an array or a builder of items of bytes, and the errors of others. What depends on the kind comes
-- first: whether its items must be text, its physical type, and the refusal of another type.
use Rattle.std.specs.Prelude.{◌≡◌, ◌≤◌, ℕ, Bool, List, [], Option, None, Result, length}
use Rattle.arrow_types.specs.Types.{IsRightType, LogicalType, Refusal, logical_type}
use Rattle.arrow_types.specs.declared.data_type.DataType.{DataType}
use Rattle.arrow_types.specs.declared.error.Error.{Error}
use Rattle.arrow_types.specs.declared.physical_type.PhysicalType.{PhysicalType}
use Rattle.arrow_memory.specs.Offsets.{last_of}
use Rattle.arrow_memory.specs.Rows.{FitsMask}
use Rattle.arrow_column.specs.Validation.{AcceptedBy, Passes, RefusedBy, Tests, accept, test}
use Rattle.arrow_column.specs.Column.{mask_of, stored_values, unfit_builder_mask, unfit_mask}
use Rattle.arrow_check.specs.Bounds.{not_at_end, past_values}
use Rattle.arrow_check.specs.Pieces.{items_of}
use Rattle.arrow_check.specs.Texts.{not_text}
use Rattle.arrow_bytes.specs.Column.{ByteColumn, byte_column, bytes_held, offsets_held}
use Rattle.arrow_bytes.specs.Kinds.{AreItems}
use Rattle.arrow_bytes.specs.Pieces.{Pieces, pieces_of}

-- the tests of an array's offsets and bytes, and then others: no offset is past the bytes, and each slot is an item
abbrev pub values_tests : Bool → List ℕ → List ℕ → Tests → Tests
values_tests text offsets bytes others =
    test (last_of offsets ≤ length bytes) past_values
    (test (AreItems text (items_of offsets bytes)) not_text others)

-- the tests of an array's parts, in order: those of its offsets and bytes, then a mask has a mark for each slot, and
-- the type is one of the array's physical type
abbrev pub array_tests : Bool → PhysicalType → Refusal → LogicalType → List ℕ → List ℕ → Option (List Bool) → Tests
array_tests text layout wrong_type t offsets bytes mask =
    values_tests text offsets bytes
    (test (FitsMask (items_of offsets bytes) mask) unfit_mask
    (test (IsRightType layout t) wrong_type accept))

-- the tests of a builder's type, offsets and bytes, and then others: the last offset is the number of bytes, each slot
-- is an item, and the type is one of the builder's physical type
abbrev pub typed_tests : Bool → PhysicalType → Refusal → LogicalType → List ℕ → List ℕ → Tests → Tests
typed_tests text layout wrong_type t offsets bytes others =
    test (last_of offsets ≡ length bytes) not_at_end
    (test (AreItems text (items_of offsets bytes)) not_text
    (test (IsRightType layout t) wrong_type others))

-- the tests of a builder's parts, in order: those of its type, offsets and bytes, and then a mask has a mark for each
-- slot
abbrev pub builder_tests : Bool → PhysicalType → Refusal → LogicalType → List ℕ → List ℕ → Option (List Bool) → Tests
builder_tests text layout wrong_type t offsets bytes mask =
    typed_tests text layout wrong_type t offsets bytes
    (test (FitsMask (items_of offsets bytes) mask) unfit_builder_mask accept)

-- the tests of the parts of a builder without nulls, in order
abbrev pub values_builder_tests : Bool → PhysicalType → Refusal → LogicalType → List ℕ → List ℕ → Tests
values_builder_tests text layout wrong_type t offsets bytes = typed_tests text layout wrong_type t offsets bytes accept

-- how calls that make an array or a builder of a data type, offsets and bytes end
module _ (text : Bool) (layout : PhysicalType) (wrong : Refusal) (data_type : DataType) (offsets bytes : List ℕ) where
  -- the parts pass an array's tests, and it is made of them
  abbrev pub AcceptsArray : Option (List Bool) → Result ByteColumn Error → Type 0
  AcceptsArray mask result =
      AcceptedBy (array_tests text layout wrong (logical_type data_type) offsets bytes mask) result
      (byte_column (logical_type data_type) offsets bytes mask)

  -- the error is that of the first of an array's tests that fails
  abbrev pub RefusesArray : {V : Type 0} → Option (List Bool) → Result V Error → Type 0
  RefusesArray mask result =
      RefusedBy (array_tests text layout wrong (logical_type data_type) offsets bytes mask) result

  -- the parts pass a builder's tests, and it is made of them
  abbrev pub AcceptsBuilder : Option (List Bool) → Result ByteColumn Error → Type 0
  AcceptsBuilder mask result =
      AcceptedBy (builder_tests text layout wrong (logical_type data_type) offsets bytes mask) result
      (byte_column (logical_type data_type) offsets bytes mask)

  -- the error is that of the first of a builder's tests that fails
  abbrev pub RefusesBuilder : {V : Type 0} → Option (List Bool) → Result V Error → Type 0
  RefusesBuilder mask result =
      RefusedBy (builder_tests text layout wrong (logical_type data_type) offsets bytes mask) result

  -- the parts pass the tests of a builder without nulls, and it is made of them
  abbrev pub AcceptsValuesBuilder : Result ByteColumn Error → Type 0
  AcceptsValuesBuilder result =
      AcceptedBy (values_builder_tests text layout wrong (logical_type data_type) offsets bytes) result
      (byte_column (logical_type data_type) offsets bytes None)

  -- the error is that of the first test of a builder without nulls that fails
  abbrev pub RefusesValuesBuilder : {V : Type 0} → Result V Error → Type 0
  RefusesValuesBuilder result =
      RefusedBy (values_builder_tests text layout wrong (logical_type data_type) offsets bytes) result

  -- the parts pass the tests of a builder without nulls, and the items between the offsets are made of them
  abbrev pub AcceptsItems : Result Pieces Error → Type 0
  AcceptsItems result =
      AcceptedBy (typed_tests text layout wrong (logical_type data_type) offsets bytes accept) result
      (pieces_of offsets bytes)

-- a column of items of the kind, under a type of its physical type, passes the tests with its own parts
module _ (text : Bool) (layout : PhysicalType) (wrong_type : Refusal) (c : ByteColumn) where
  -- a column of items of the kind, under a type of its physical type, passes an array's tests with its own parts
  abbrev pub PassesAsArray : Type 0
  PassesAsArray = AreItems text (stored_values c) → IsRightType layout c.data_type
      → Passes (array_tests text layout wrong_type c.data_type (offsets_held c) (bytes_held c) (mask_of c))

  -- such a column passes a builder's tests with its own parts if no byte lies after its last slot
  abbrev pub PassesAsBuilder : Type 0
  PassesAsBuilder = c.around.tail ≡ [] → AreItems text (stored_values c) → IsRightType layout c.data_type
      → Passes (builder_tests text layout wrong_type c.data_type (offsets_held c) (bytes_held c) (mask_of c))

  -- such a column passes the tests of a builder without nulls with its own parts if no byte lies after its last slot
  abbrev pub PassesAsValuesBuilder : Type 0
  PassesAsValuesBuilder = c.around.tail ≡ [] → AreItems text (stored_values c) → IsRightType layout c.data_type
      → Passes (values_builder_tests text layout wrong_type c.data_type (offsets_held c) (bytes_held c))
