-- The entries of a table: values that know nothing of how they are kept, nor of one another.
use Rattle.std.specs.Prelude.{ℕ, Bool, true, false, List, [], Option, None, replicate}
use Rattle.arrow_types.specs.Types.{LogicalType, default_logical_type}
use Rattle.arrow_types.specs.declared.offset.Offset as bound
use Rattle.arrow_types.specs.declared.primitive_type.PrimitiveType.{PrimitiveType}
use Rattle.arrow_types.specs.declared.physical_type.PhysicalType.{PhysicalType}
use Rattle.arrow_types.specs.declared.physical_type.PhysicalType.TheVariants as physical
use Rattle.arrow_column.specs.Column.{ColumnWith}
use Rattle.arrow_check.specs.Reading.{Cost, no_cost}
use Rattle.arrow_bytes.specs.Pieces.{Around}
use Rattle.arrow_bytes.specs.Kinds.{binary_type, text_type, binary_layout, text_layout}
use Rattle.arrow_boolean.specs.Fits.{boolean_type}
use Rattle.arrow_model.specs.Kind.{ValueKind, native, boolean, var_binary, Shape}
use Rattle.arrow_model.specs.Item.{Stored, value, bit, bytes_item}

-- a value: its kind; and its type, lead and tail, rows, and whether a mask is held
pub record Value (T : Type 0) : Type 0 where
  pub shape : Shape
  pub column : ColumnWith Around (Stored T)

-- the entries in order, each of which may be empty
abbrev pub State : Type 0 → Type 0
State T = List (Option (Value T))

-- a table: its entries, and what its tests of text cost so far
pub record TableState (T : Type 0) : Type 0 where
  pub entries : State T
  pub cost : Cost

-- a table of n empty entries
abbrev pub empty_table : {T : Type 0} → ℕ → TableState T
empty_table n = record { entries = replicate n None; cost = no_cost }

-- what is known of the native type and the offset type: what a null stores, the primitive type, the greatest offset,
-- and whether the layouts over such offsets are the large ones
pub record Types (T : Type 0) : Type 0 where
  pub zero : T
  pub primitive : PrimitiveType
  pub most : ℕ
  pub large : Bool

abbrev pub types : {T : Type 0} → T → PrimitiveType → ℕ → Bool → Types T
types zero primitive most large = record { zero = zero; primitive = primitive; most = most; large = large }

-- the ghost members of a bound `T: NativeType`, which a contract names `T.NativeType`; and those of a bound `O: Offset`
abbrev pub NativeMembers : Type 0 → Type 0
NativeMembers T = record { eq : T → T → Bool; PRIMITIVE : PrimitiveType; zero : T }

abbrev pub OffsetMembers : Type 0 → Type 1
OffsetMembers = bound.Ghosts

abbrev pub types_of : {T O : Type 0} → NativeMembers T → OffsetMembers O → Types T
types_of natives offset = types natives.zero natives.PRIMITIVE offset.most offset.IS_LARGE

-- the type of an array or a builder unless another is given
abbrev pub default_type : {T : Type 0} → Types T → ValueKind → LogicalType
default_type c native = default_logical_type c.primitive
default_type c boolean = boolean_type
default_type c (var_binary false) = binary_type c.large
default_type c (var_binary true) = text_type c.large

-- how its values lie in memory, as those of any right type do
abbrev pub layout : {T : Type 0} → Types T → ValueKind → PhysicalType
layout c native = physical.Primitive c.primitive
layout c boolean = physical.Boolean
layout c (var_binary false) = binary_layout c.large
layout c (var_binary true) = text_layout c.large

-- what a null stores
abbrev pub default_item : {T : Type 0} → Types T → ValueKind → Stored T
default_item c native = value c.zero
default_item c boolean = bit false
default_item c (var_binary is_text) = bytes_item is_text []
