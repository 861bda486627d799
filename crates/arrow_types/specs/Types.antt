-- What contracts see of data types and refusals: Arrow's logical and physical types.
use Rattle.std.specs.Prelude.{◌≡◌, ℕ, Bool, List, [], ◌∷◌, Option, codes, String, string_bytes, option_map}
use Rattle.std.specs.Prelude.{length, nat_lt}
use Rattle.std.specs.declared.alloc.Global.{Global}
use Rattle.arrow_types.specs.declared.data_type.DataType.{DataType}
use Rattle.arrow_types.specs.declared.data_type.DataType as data_type
use Rattle.arrow_types.specs.declared.error.Error.{Error}
use Rattle.arrow_types.specs.declared.error.Error.TheVariants as error
use Rattle.arrow_types.specs.declared.physical_type.PhysicalType.{PhysicalType}
use Rattle.arrow_types.specs.declared.physical_type.PhysicalType.TheVariants as physical
use Rattle.arrow_types.specs.declared.primitive_type.PrimitiveType.{PrimitiveType}
use Rattle.arrow_types.specs.declared.primitive_type.PrimitiveType.TheVariants as primitive
use Rattle.arrow_types.specs.declared.units.IntervalUnit.{IntervalUnit}
use Rattle.arrow_types.specs.declared.units.IntervalUnit.TheVariants as interval_unit
use Rattle.arrow_types.specs.declared.units.TimeUnit.{TimeUnit}

-- the logical types that are no extension, with every part
pub data Base : Type 0 where
  boolean : Base
  int8 : Base
  int16 : Base
  int32 : Base
  int64 : Base
  uint8 : Base
  uint16 : Base
  uint32 : Base
  uint64 : Base
  date32 : Base
  date64 : Base
  time32 : TimeUnit → Base
  time64 : TimeUnit → Base
  timestamp : TimeUnit → Option (List ℕ) → Base
  duration : TimeUnit → Base
  interval : IntervalUnit → Base
  decimal : ℕ → ℕ → Base
  decimal256 : ℕ → ℕ → Base
  binary : Base
  large_binary : Base
  utf8 : Base
  large_utf8 : Base

-- an extension around a type: its name, and its metadata where it has any
pub record Extension : Type 0 where
  pub name : List ℕ
  pub metadata : Option (List ℕ)

-- a logical type, wherever its text lies: its extensions, the outermost first, and what they extend
pub record LogicalType : Type 0 where
  pub extensions : List Extension
  pub base : Base

-- whether a type has an extension around it
abbrev pub is_extension : LogicalType → Bool
is_extension t = nat_lt 0 (length t.extensions)

-- the bytes of a text that may be there
abbrev pub text_bytes : Option (String Global) → Option (List ℕ)
text_bytes text = option_map string_bytes text

-- a type that is no extension
abbrev pub plain : Base → LogicalType
plain b = record { extensions = []; base = b }

-- a type with an extension around it
abbrev pub extended : List ℕ → Option (List ℕ) → LogicalType → LogicalType
extended name metadata t = record t { extensions = record { name = name; metadata = metadata } ∷ t.extensions }

-- the logical type that a data type is
abbrev pub logical_type : DataType → LogicalType
logical_type data_type.Boolean = plain boolean
logical_type data_type.Int8 = plain int8
logical_type data_type.Int16 = plain int16
logical_type data_type.Int32 = plain int32
logical_type data_type.Int64 = plain int64
logical_type data_type.UInt8 = plain uint8
logical_type data_type.UInt16 = plain uint16
logical_type data_type.UInt32 = plain uint32
logical_type data_type.UInt64 = plain uint64
logical_type data_type.Date32 = plain date32
logical_type data_type.Date64 = plain date64
logical_type (data_type.Time32 unit) = plain (time32 unit)
logical_type (data_type.Time64 unit) = plain (time64 unit)
logical_type (data_type.Timestamp unit time_zone) = plain (timestamp unit (text_bytes time_zone))
logical_type (data_type.Duration unit) = plain (duration unit)
logical_type (data_type.Interval unit) = plain (interval unit)
logical_type (data_type.Decimal precision scale) = plain (decimal precision scale)
logical_type (data_type.Decimal256 precision scale) = plain (decimal256 precision scale)
logical_type data_type.Binary = plain binary
logical_type data_type.LargeBinary = plain large_binary
logical_type data_type.Utf8 = plain utf8
logical_type data_type.LargeUtf8 = plain large_utf8
logical_type (data_type.Extension' name place inner metadata) =
    extended (string_bytes name) (text_bytes metadata) (logical_type inner)

-- how the values of a base type lie in memory
abbrev pub base_physical : Base → PhysicalType
base_physical boolean = physical.Boolean
base_physical int8 = physical.Primitive primitive.Int8
base_physical int16 = physical.Primitive primitive.Int16
base_physical int32 = physical.Primitive primitive.Int32
base_physical int64 = physical.Primitive primitive.Int64
base_physical uint8 = physical.Primitive primitive.UInt8
base_physical uint16 = physical.Primitive primitive.UInt16
base_physical uint32 = physical.Primitive primitive.UInt32
base_physical uint64 = physical.Primitive primitive.UInt64
base_physical date32 = physical.Primitive primitive.Int32
base_physical date64 = physical.Primitive primitive.Int64
base_physical (time32 unit) = physical.Primitive primitive.Int32
base_physical (time64 unit) = physical.Primitive primitive.Int64
base_physical (timestamp unit time_zone) = physical.Primitive primitive.Int64
base_physical (duration unit) = physical.Primitive primitive.Int64
base_physical (interval interval_unit.YearMonth) = physical.Primitive primitive.Int32
base_physical (interval interval_unit.DayTime) = physical.Primitive primitive.DaysMs
base_physical (interval interval_unit.MonthDayNano) = physical.Primitive primitive.MonthDayNano
base_physical (decimal precision scale) = physical.Primitive primitive.Int128
base_physical (decimal256 precision scale) = physical.Primitive primitive.Int256
base_physical binary = physical.Binary
base_physical large_binary = physical.LargeBinary
base_physical utf8 = physical.Utf8
base_physical large_utf8 = physical.LargeUtf8

-- how a type's values lie in memory; an extension's lie as those of what it extends
abbrev pub physical_type : LogicalType → PhysicalType
physical_type t = base_physical t.base

-- a type is right for values that lie in this way if its own values do
abbrev pub IsRightType : PhysicalType → LogicalType → Type 0
IsRightType physical t = physical_type t ≡ physical

-- the logical type that a primitive type has unless another is given
abbrev pub default_logical_type : PrimitiveType → LogicalType
default_logical_type primitive.Int8 = plain int8
default_logical_type primitive.Int16 = plain int16
default_logical_type primitive.Int32 = plain int32
default_logical_type primitive.Int64 = plain int64
default_logical_type primitive.Int128 = plain (decimal 32 32)
default_logical_type primitive.Int256 = plain (decimal256 32 32)
default_logical_type primitive.UInt8 = plain uint8
default_logical_type primitive.UInt16 = plain uint16
default_logical_type primitive.UInt32 = plain uint32
default_logical_type primitive.UInt64 = plain uint64
default_logical_type primitive.DaysMs = plain (interval interval_unit.DayTime)
default_logical_type primitive.MonthDayNano = plain (interval interval_unit.MonthDayNano)

-- a refusal, wherever its text lies: a broken rule with its text, an offset past its type, memory
pub data Refusal : Type 0 where
  out_of_spec : List ℕ → Refusal
  overflow : Refusal
  out_of_memory : Refusal

-- the refusal that an error is
abbrev pub refusal : Error → Refusal
refusal (error.OutOfSpec text) = out_of_spec text.now
refusal error.Overflow = overflow
refusal error.OutOfMemory = out_of_memory

-- what a refusal prints
abbrev pub refusal_text : Refusal → List ℕ
refusal_text (out_of_spec text) = text
refusal_text overflow = codes "overflow"
refusal_text out_of_memory = codes "out of memory"
