-- Which parts make a primitive array or builder, and the errors of others.
use Rattle.std.specs.Prelude.{Bool, codes, List, Option}
use Rattle.arrow_types.specs.Types.{IsRightType, LogicalType, Refusal, out_of_spec}
use Rattle.arrow_types.specs.declared.physical_type.PhysicalType.TheVariants as physical
use Rattle.arrow_types.specs.declared.primitive_type.PrimitiveType.{PrimitiveType}
use Rattle.arrow_memory.specs.Rows.{FitsMask}
use Rattle.arrow_column.specs.Validation.{Tests, accept, test}
use Rattle.arrow_column.specs.Column.{unfit_mask}

-- the error of a data type of another physical type
abbrev pub wrong_primitive_type : Refusal
wrong_primitive_type = out_of_spec
    (codes "PrimitiveArray can only be initialized with a DataType whose physical type is Primitive")

-- the tests of parts, in order: a mask has a mark for each value, and the type is one of the array's physical type
abbrev pub parts_tests : {T : Type 0} → PrimitiveType → LogicalType → List T → Option (List Bool) → Tests
parts_tests primitive t values mask =
    test (FitsMask values mask) unfit_mask
    (test (IsRightType (physical.Primitive primitive) t) wrong_primitive_type accept)
