-- The type of boolean arrays and builders, which parts make one, and the errors of others.
use Rattle.std.specs.Prelude.{Bool, codes, List, Option}
use Rattle.arrow_types.specs.Types.{IsRightType, LogicalType, Refusal, boolean, out_of_spec, plain}
use Rattle.arrow_types.specs.declared.physical_type.PhysicalType.TheVariants as physical
use Rattle.arrow_memory.specs.Rows.{FitsMask}
use Rattle.arrow_column.specs.Validation.{Tests, accept, test}
use Rattle.arrow_column.specs.Column.{unfit_mask}

-- the type of an array or a builder unless another is given
abbrev pub boolean_type : LogicalType
boolean_type = plain boolean

-- the error of an array's data type of another physical type
abbrev pub wrong_boolean_type : Refusal
wrong_boolean_type = out_of_spec
    (codes "BooleanArray can only be initialized with a DataType whose physical type is Boolean")

-- the error of a builder's data type of another physical type
abbrev pub wrong_boolean_builder_type : Refusal
wrong_boolean_builder_type = out_of_spec
    (codes "MutableBooleanArray can only be initialized with a DataType whose physical type is Boolean")

-- the tests of an array's parts, in order: a mask has a mark for each value, and the type's physical type is Boolean
abbrev pub boolean_array_tests : LogicalType → List Bool → Option (List Bool) → Tests
boolean_array_tests t values mask =
    test (FitsMask values mask) unfit_mask (test (IsRightType physical.Boolean t) wrong_boolean_type accept)

-- the tests of a builder's parts, in order: the same, of which the last has another error
abbrev pub boolean_builder_tests : LogicalType → List Bool → Option (List Bool) → Tests
boolean_builder_tests t values mask =
    test (FitsMask values mask) unfit_mask (test (IsRightType physical.Boolean t) wrong_boolean_builder_type accept)
