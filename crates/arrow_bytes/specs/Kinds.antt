-- The two kinds of items, bytes and text: which bytes are an item, how the values of arrays and builders lie in memory,
-- and the errors of other types. Booleans say whether items are text, and whether offsets are large.
use Rattle.std.specs.Prelude.{⊤, ◌≡◌, ◌≢◌, true, false, ℕ, ◌-◌, ◌≤◌, Bool, List, length, codes, if◌then◌else◌}
use Rattle.arrow_types.specs.Types.{LogicalType, Refusal, binary, large_binary, large_utf8, out_of_spec, plain, utf8}
use Rattle.arrow_types.specs.declared.physical_type.PhysicalType.{PhysicalType}
use Rattle.arrow_types.specs.declared.physical_type.PhysicalType.TheVariants as physical
use Rattle.arrow_memory.specs.Offsets.{last_of, IsOffsets}
use Rattle.arrow_check.specs.Pieces.{items_of}
use Rattle.arrow_check.specs.Texts.{AreTexts}
use Rattle.arrow_check.specs.Utf8.{IsWellFormed}
use Rattle.arrow_check.specs.Reading.{Cost, ReadsAtMost}
use Rattle.arrow_check.specs.Windows.{ReadsOnce}

-- these bytes are an item: of text they are UTF-8, else they may be any
abbrev pub IsItem : Bool → List ℕ → Type 0
IsItem true bytes = IsWellFormed bytes
IsItem false bytes = ⊤

-- each of these is an item by itself
abbrev pub AreItems : Bool → List (List ℕ) → Type 0
AreItems true items = AreTexts items
AreItems false items = ⊤

-- the offsets lie within the bytes, and what lies between two of them is an item
abbrev pub CutItems : Bool → List ℕ → List ℕ → Type 0
CutItems text offsets bytes = (last_of offsets ≤ length bytes) × AreItems text (items_of offsets bytes)

-- the offsets are legal and lie within the bytes, and what lies between two of them is an item
abbrev pub LegalItems : Bool → List ℕ → List ℕ → Type 0
LegalItems text offsets bytes = IsOffsets offsets × (last_of offsets ≤ length bytes)
    × AreItems text (items_of offsets bytes)

-- the offsets are legal and end where the bytes do, and what lies between two of them is an item
abbrev pub LegalEndItems : Bool → List ℕ → List ℕ → Type 0
LegalEndItems text offsets bytes = IsOffsets offsets × (last_of offsets ≡ length bytes)
    × AreItems text (items_of offsets bytes)

-- from some counts of what text checks cost to later ones: the window of these bytes was tested once at most whether
-- it is ASCII, and once at most whether it is UTF-8; each inner offset was looked at once at most
abbrev pub TestsOnce : List ℕ → List ℕ → Cost → Cost → Type 0
TestsOnce offsets bytes old new = ReadsAtMost 1 1 (length offsets - 2) (record { bytes = bytes; cost = old })
    (record { bytes = bytes; cost = new })

-- what the test of an array's parts costs: of text what reading the window once costs, of bytes nothing
abbrev pub Costs : Bool → List ℕ → List ℕ → Cost → Cost → Type 0
Costs true offsets bytes old new = ReadsOnce (CutItems true offsets bytes) offsets (record {
  bytes = bytes;
  cost =
      old;
}) (record { bytes = bytes; cost = new })
Costs false offsets bytes old new = new ≡ old

-- and that of a builder's parts: nothing is read unless the last offset is the end of the bytes
pub record BuilderCosts (text : Bool) (offsets bytes : List ℕ) (old new : Cost) : Type 0 where
  pub unread : last_of offsets ≢ length bytes → new ≡ old
  pub read : last_of offsets ≡ length bytes → Costs text offsets bytes old new

-- the type of an array or a builder of bytes unless another is given
abbrev pub binary_type : Bool → LogicalType
binary_type large = if large then plain large_binary else plain binary

-- the type of an array or a builder of text unless another is given
abbrev pub text_type : Bool → LogicalType
text_type large = if large then plain large_utf8 else plain utf8

-- how bytes lie in memory
abbrev pub binary_layout : Bool → PhysicalType
binary_layout large = if large then physical.LargeBinary else physical.Binary

-- how text lies in memory
abbrev pub text_layout : Bool → PhysicalType
text_layout large = if large then physical.LargeUtf8 else physical.Utf8

-- the refusal of another type for an array of bytes
abbrev pub wrong_binary_type : Refusal
wrong_binary_type = out_of_spec
    (codes "BinaryArray can only be initialized with DataType::Binary or DataType::LargeBinary")

-- the refusal of another type for a builder of bytes
abbrev pub wrong_binary_builder_type : Refusal
wrong_binary_builder_type =
    out_of_spec (codes
    "MutableBinaryValuesArray can only be initialized with DataType::Binary or DataType::LargeBinary")

-- the refusal of another type for an array of text
abbrev pub wrong_text_type : Refusal
wrong_text_type = out_of_spec (codes "Utf8Array can only be initialized with DataType::Utf8 or DataType::LargeUtf8")

-- the refusal of another type for a builder of text
abbrev pub wrong_text_builder_type : Refusal
wrong_text_builder_type =
    out_of_spec (codes "MutableUtf8ValuesArray can only be initialized with DataType::Utf8 or DataType::LargeUtf8")
