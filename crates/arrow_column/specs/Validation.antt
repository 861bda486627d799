-- How parts from outside are validated: by tests in order, each a condition and the refusal of parts that fail it.
use Rattle.std.specs.Prelude.{◌≡◌, Bool, List, Option, Result, IfOk, IfErr}
use Rattle.arrow_types.specs.Types.{LogicalType, Refusal, refusal}
use Rattle.arrow_types.specs.declared.error.Error.{Error}
use Rattle.arrow_column.specs.Column.{Column, column_of_parts, mask_of, stored_values}

-- tests in order
pub data Tests : Type 1 where
  accept : Tests
  test : Type 0 → Refusal → Tests → Tests

-- every condition holds
abbrev pub Passes : Tests → Type 0
Passes accept = Unit {0}
Passes (test Condition why tests) = Condition × Passes tests

-- this is the refusal of the first condition that fails
abbrev pub IsFirstFailure : Tests → Refusal → Type 0
IsFirstFailure accept refused = ⊥
IsFirstFailure (test Condition why tests) refused = ((Condition → ⊥) → refused ≡ why) × (Condition
    → IsFirstFailure tests refused)

-- a call that succeeds returns this value, and the tests pass
abbrev pub AcceptedBy : {V : Type 0} → Tests → Result V Error → V → Type 0
AcceptedBy tests result value = IfOk result (λ made. Passes tests × (made ≡ value))

-- a call that fails returns the refusal of the first test that fails
abbrev pub RefusedBy : {V : Type 0} → Tests → Result V Error → Type 0
RefusedBy tests result = IfErr result (λ e. IsFirstFailure tests (refusal e))

-- calls that make a column of a type, values and a mask, and the tests of these parts
module _ {S : Type 0} (tests : LogicalType → List S → Option (List Bool) → Tests) where
  -- a call that succeeds returns the column of this type, values and mask, which pass the tests
  abbrev pub AcceptsParts : LogicalType → List S → Option (List Bool) → Result (Column S) Error → Type 0
  AcceptsParts t values mask result = AcceptedBy (tests t values mask) result (column_of_parts t values mask)

  -- a call that fails returns the refusal of the first test that this type, values or mask fail
  abbrev pub RefusesParts : LogicalType → List S → Option (List Bool) → Result (Column S) Error → Type 0
  RefusesParts t values mask result = RefusedBy (tests t values mask) result

  -- the tests of a column's own parts
  abbrev pub own_tests : Column S → Tests
  own_tests column = tests column.data_type (stored_values column) (mask_of column)
