-- The text of logical types: Arrow's names with their parts, as Rust's `{:?}` writes them, but that names past ASCII
-- stay as they are.
use Rattle.std.specs.Prelude.{ℕ, List, [], ◌∷◌, ◌++◌, codes}
use Rattle.std.specs.Fmt as fmt
use Rattle.arrow_types.specs.declared.units.IntervalUnit.{IntervalUnit}
use Rattle.arrow_types.specs.declared.units.IntervalUnit.TheVariants as interval_unit
use Rattle.arrow_types.specs.declared.units.TimeUnit.{TimeUnit}
use Rattle.arrow_types.specs.declared.units.TimeUnit.TheVariants as time_unit
use Rattle.arrow_types.specs.QuotedText.{quoted_text, quoted_option}
use Rattle.arrow_types.specs.Types.{Base, Extension, LogicalType, boolean, int8, int16, int32, int64, uint8, uint16}
use Rattle.arrow_types.specs.Types.{uint32, uint64, date32, date64, time32, time64, timestamp, duration, interval}
use Rattle.arrow_types.specs.Types.{decimal, decimal256, binary, large_binary, utf8, large_utf8}

abbrev pub time_unit_text : TimeUnit → List ℕ
time_unit_text time_unit.Second = codes "Second"
time_unit_text time_unit.Millisecond = codes "Millisecond"
time_unit_text time_unit.Microsecond = codes "Microsecond"
time_unit_text time_unit.Nanosecond = codes "Nanosecond"

abbrev pub interval_unit_text : IntervalUnit → List ℕ
interval_unit_text interval_unit.YearMonth = codes "YearMonth"
interval_unit_text interval_unit.DayTime = codes "DayTime"
interval_unit_text interval_unit.MonthDayNano = codes "MonthDayNano"

-- a type that is no extension
abbrev pub base_text : Base → List ℕ
base_text boolean = codes "Boolean"
base_text int8 = codes "Int8"
base_text int16 = codes "Int16"
base_text int32 = codes "Int32"
base_text int64 = codes "Int64"
base_text uint8 = codes "UInt8"
base_text uint16 = codes "UInt16"
base_text uint32 = codes "UInt32"
base_text uint64 = codes "UInt64"
base_text date32 = codes "Date32"
base_text date64 = codes "Date64"
base_text (time32 unit) = codes "Time32(" ++ time_unit_text unit ++ codes ")"
base_text (time64 unit) = codes "Time64(" ++ time_unit_text unit ++ codes ")"
base_text (timestamp unit time_zone) =
    codes "Timestamp(" ++ time_unit_text unit ++ codes ", " ++ quoted_option time_zone ++ codes ")"
base_text (duration unit) = codes "Duration(" ++ time_unit_text unit ++ codes ")"
base_text (interval unit) = codes "Interval(" ++ interval_unit_text unit ++ codes ")"
base_text (decimal precision scale) =
    codes "Decimal(" ++ fmt.decimal precision ++ codes ", " ++ fmt.decimal scale ++ codes ")"
base_text (decimal256 precision scale) =
    codes "Decimal256(" ++ fmt.decimal precision ++ codes ", " ++ fmt.decimal scale ++ codes ")"
base_text binary = codes "Binary"
base_text large_binary = codes "LargeBinary"
base_text utf8 = codes "Utf8"
base_text large_utf8 = codes "LargeUtf8"

-- extensions, the outermost first, around a type with this text
abbrev pub extensions_text : List Extension → List ℕ → List ℕ
extensions_text [] inner = inner
extensions_text (extension ∷ extensions) inner =
    codes "Extension(" ++ quoted_text extension.name ++ codes ", " ++ extensions_text extensions inner ++ codes ", "
    ++ quoted_option extension.metadata ++ codes ")"

-- the text of a type
abbrev pub type_text : LogicalType → List ℕ
type_text t = extensions_text t.extensions (base_text t.base)
