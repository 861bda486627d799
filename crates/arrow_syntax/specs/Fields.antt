-- The words behind a line's name, and their values.
use Rattle.std.specs.Prelude.{ℕ, ◌+◌, ◌*◌, bytes_eq, codes, ◌==◌, Bool, true, false, if◌then◌else◌, List, []}
use Rattle.std.specs.Prelude.{◌∷◌, length, map, take, drop, ℤ, Option, Some, None, option_map, option_and_then}
use Rattle.std.specs.Int.{div_ceil}
use Rattle.std.specs.List.{range_with_len}
use Rattle.std.specs.Result.{result_ok}
use Rattle.std.specs.Str.{is_utf8}
use Rattle.hex.specs.Hex.{decode_of}
use Rattle.arrow_types.specs.Types.{LogicalType, Base, plain}
use Rattle.arrow_types.specs.Types as types
use Rattle.arrow_model.specs.declared.kind.Kind.{Kind}
use Rattle.arrow_model.specs.declared.kind.Kind.TheVariants as kind
use Rattle.arrow_model.specs.declared.item.Turn.{Turn}
use Rattle.arrow_model.specs.declared.item.Turn.TheVariants as turn
use Rattle.arrow_model.specs.Item.{Stored, value, bit, bytes_item, ListChange, fill}
use Rattle.arrow_model.specs.Item as item
use Rattle.arrow_model.specs.Kind.{Shape, ValueKind, native, boolean, var_binary, shape}
use Rattle.arrow_model.specs.Request.{Packed, RawValues, values, packed, cut_pieces}
use Rattle.arrow_syntax.specs.Readers.{Reader, lookup, no_words, only, each, ◌▸◌, next, map_read}
use Rattle.arrow_syntax.specs.Words.{parse_usize, parse_i64}

-- the words of the kinds of array and builder
abbrev pub kinds : List (List ℕ × Kind)
kinds =
    (codes "prim", kind.Primitive)
    ∷ (codes "bool", kind.Boolean)
    ∷ (codes "bin", kind.Binary)
    ∷ (codes "utf8", kind.Utf8)
    ∷ (codes "mprim", kind.MutablePrimitive)
    ∷ (codes "mbool", kind.MutableBoolean)
    ∷ (codes "mbin", kind.MutableBinary)
    ∷ (codes "mutf8", kind.MutableUtf8)
    ∷ (codes "vbin", kind.BinaryValues)
    ∷ (codes "vutf8", kind.Utf8Values)
    ∷ []

-- the kind of a word
abbrev pub parse_kind : List ℕ → Option Kind
parse_kind = lookup kinds

-- the words of data types
abbrev pub bases : List (List ℕ × Base)
bases =
    (codes "Boolean", types.boolean)
    ∷ (codes "Int8", types.int8)
    ∷ (codes "Int16", types.int16)
    ∷ (codes "Int32", types.int32)
    ∷ (codes "Int64", types.int64)
    ∷ (codes "UInt8", types.uint8)
    ∷ (codes "UInt16", types.uint16)
    ∷ (codes "UInt32", types.uint32)
    ∷ (codes "UInt64", types.uint64)
    ∷ (codes "Date32", types.date32)
    ∷ (codes "Date64", types.date64)
    ∷ (codes "Binary", types.binary)
    ∷ (codes "LargeBinary", types.large_binary)
    ∷ (codes "Utf8", types.utf8)
    ∷ (codes "LargeUtf8", types.large_utf8)
    ∷ []

-- the data type of a word
abbrev pub parse_type : List ℕ → Option LogicalType
parse_type word = option_map plain (lookup bases word)

-- the first letters of words, as bytes
abbrev pub letter_s : ℕ
letter_s = 115

abbrev pub letter_t : ℕ
letter_t = 116

abbrev pub letter_v : ℕ
letter_v = 118

abbrev pub letter_x : ℕ
letter_x = 120

-- the bytes of pairs of hexadecimal digits, in either case
abbrev pub hex_bytes : List ℕ → Option (List ℕ)
hex_bytes digits = result_ok (decode_of digits)

-- the same, if they are UTF-8
abbrev pub hex_text : List ℕ → Option (List ℕ)
hex_text digits = option_and_then (λ bytes. if is_utf8 bytes then Some bytes else None) (hex_bytes digits)

-- bytes: `x` and hexadecimal digits
abbrev pub parse_bytes : List ℕ → Option (List ℕ)
parse_bytes [] = None
parse_bytes (b ∷ bs) = if b == letter_x then hex_bytes bs else None

-- an item by its first letter: `v` and a number, or `x` or `t` and hexadecimal digits, those behind `t` of a text
abbrev pub item_by_letter : List ℕ → Option (Stored ℤ)
item_by_letter [] = None
item_by_letter (b ∷ bs) =
    if b == letter_v then option_map value (parse_i64 bs) else (
    if b == letter_x then option_map (bytes_item false) (hex_bytes bs) else (
    if b == letter_t then option_map (bytes_item true) (hex_text bs) else None))

-- an item: a boolean, `b0` or `b1`, or any other
abbrev pub parse_item : List ℕ → Option (Stored ℤ)
parse_item word =
    if bytes_eq word (codes "b0") then Some (bit false) else (
    if bytes_eq word (codes "b1") then Some (bit true) else item_by_letter word)

-- a slot: an item, or `_` for a null
abbrev pub parse_slot : List ℕ → Option (Option (Stored ℤ))
parse_slot word = if bytes_eq word (codes "_") then Some None else option_map Some (parse_item word)

-- the boolean of the digit `0` or `1`
abbrev pub parse_bit : ℕ → Option Bool
parse_bit b = if b == 48 then Some false else (if b == 49 then Some true else None)

-- booleans: such a digit for each, or `.` for none
abbrev pub parse_bits : List ℕ → Option (List Bool)
parse_bits word = if bytes_eq word (codes ".") then Some [] else each parse_bit word

-- a validity mask: booleans, or `-` for no mask
abbrev pub parse_mask : List ℕ → Option (Option (List Bool))
parse_mask word = if bytes_eq word (codes "-") then Some None else option_map Some (parse_bits word)

-- the byte of up to eight bits, the first bit lowest
abbrev pub byte_of : List Bool → ℕ
byte_of [] = 0
byte_of (b ∷ bs) = (if b then 1 else 0) + 2 * byte_of bs

-- booleans as packed bits, eight to a byte; the unused bits of the last byte are clear
unfoldable pub packed_bytes : List Bool → List ℕ
packed_bytes bits = map (λ i. byte_of (take 8 (drop (8 * i) bits))) (range_with_len 0 (div_ceil (length bits) 8))

abbrev pub packed_of : List Bool → Packed
packed_of bits = record { bytes = packed_bytes bits; length = length bits }

-- booleans, packed
abbrev pub parse_packed : List ℕ → Option Packed
parse_packed word = option_map packed_of (parse_bits word)

-- a validity mask, packed
abbrev pub parse_packed_mask : List ℕ → Option (Option Packed)
parse_packed_mask word = option_map (option_map packed_of) (parse_mask word)

-- a call of an iterator that skips: `s` and the number of items
abbrev pub parse_skip : List ℕ → Option Turn
parse_skip [] = None
parse_skip (b ∷ bs) = if b == letter_s then option_map turn.Skip (parse_usize bs) else None

-- a call of an iterator: `f` at the front, `b` at the back, or one that skips
abbrev pub parse_turn : List ℕ → Option Turn
parse_turn word =
    if bytes_eq word (codes "f") then Some turn.Front else (
    if bytes_eq word (codes "b") then Some turn.Back else parse_skip word)

-- a change of a list by its name: `fill` and an item, or `reverse`
abbrev pub change_by_name : List ℕ → Reader (ListChange (Stored ℤ))
change_by_name name words =
    if bytes_eq name (codes "fill") then map_read (only parse_item) fill words else (
    if bytes_eq name (codes "reverse") then no_words item.reversal words else None)

-- a change of a list
abbrev pub parse_change : Reader (ListChange (Stored ℤ))
parse_change [] = None
parse_change (name ∷ words) = change_by_name name words

-- raw stored values of a kind: any number of integers; booleans in one word; or bytes, and any number of offsets
abbrev pub parse_raw : (List ℕ → Option ℤ) → ValueKind → Reader (RawValues ℤ)
parse_raw offset native = map_read (each parse_i64) values
parse_raw offset boolean = map_read (only parse_packed) packed
parse_raw offset (var_binary is_text) = map_read (parse_bytes ▸ each offset) (λ x. cut_pieces x.1 x.0)

-- raw parts: a kind, a data type, a mask, and raw stored values of the kind
abbrev pub parse_parts : (List ℕ → Option ℤ) → Reader (Shape × (LogicalType × (Option Packed × RawValues ℤ)))
parse_parts offset = next parse_kind (λ kind.
    map_read (parse_type ▸ parse_packed_mask ▸ parse_raw offset (shape kind).value_kind) (λ parts. (shape kind, parts)))
