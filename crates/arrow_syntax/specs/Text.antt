-- The text of replies.
use Rattle.std.specs.Prelude.{◌≡◌, ℕ, if◌then◌else◌, List, [], ◌∷◌, ◌++◌, map, flat_map, codes, decimal, Option}
use Rattle.std.specs.Prelude.{Some, None, ℤ, String, string_bytes}
use Rattle.std.specs.List.{join_with_byte}
use Rattle.std.specs.declared.alloc.Global.{Global}
use Rattle.std.specs.Fmt.{signed_decimal}
use Rattle.hex.specs.Hex.{encode_lower}
use Rattle.arrow_types.specs.Types.{Base, Extension, LogicalType, refusal_text}
use Rattle.arrow_types.specs.Types as types
use Rattle.arrow_model.specs.Item.{Stored, value, bit, bytes_item}
use Rattle.arrow_model.specs.Answer.{Answer, done, not_met, not_given, number, flag, slot, slots, numbers}
use Rattle.arrow_model.specs.Answer.{typed, left, right, refused}
use Rattle.arrow_syntax.specs.Words.{line_feed, space}

-- an item: `v` and a number, `b0` or `b1`, or `t` or `x` and the hexadecimal digits of its bytes
abbrev pub item_text : Stored ℤ → List ℕ
item_text (value n) = codes "v" ++ signed_decimal n
item_text (bit b) = if b then codes "b1" else codes "b0"
item_text (bytes_item is_text bytes) = (if is_text then codes "t" else codes "x") ++ encode_lower bytes

-- a slot: its item, or `_` for a null
abbrev pub slot_text : Option (Stored ℤ) → List ℕ
slot_text None = codes "_"
slot_text (Some item) = item_text item

-- the word of a data type without extensions, or `other` if it has none
abbrev pub base_word : Base → List ℕ
base_word types.boolean = codes "Boolean"
base_word types.int8 = codes "Int8"
base_word types.int16 = codes "Int16"
base_word types.int32 = codes "Int32"
base_word types.int64 = codes "Int64"
base_word types.uint8 = codes "UInt8"
base_word types.uint16 = codes "UInt16"
base_word types.uint32 = codes "UInt32"
base_word types.uint64 = codes "UInt64"
base_word types.date32 = codes "Date32"
base_word types.date64 = codes "Date64"
base_word types.binary = codes "Binary"
base_word types.large_binary = codes "LargeBinary"
base_word types.utf8 = codes "Utf8"
base_word types.large_utf8 = codes "LargeUtf8"
base_word _ = codes "other"

abbrev pub word_within : List Extension → Base → List ℕ
word_within [] base = base_word base
word_within (_ ∷ _) base = codes "other"

-- the word of a data type, or `other` if it has none
abbrev pub type_word : LogicalType → List ℕ
type_word t = word_within t.extensions t.base

-- parts in brackets, with a space between each two
abbrev pub bracketed : List (List ℕ) → List ℕ
bracketed parts = codes "[" ++ join_with_byte space parts ++ codes "]"

-- the text of an answer
abbrev pub answer_text : Answer ℤ → List ℕ
answer_text done = codes "ok"
answer_text not_met = codes "not met"
answer_text not_given = codes "not given"
answer_text (number n) = decimal n
answer_text (flag b) = if b then codes "true" else codes "false"
answer_text (slot shown) = slot_text shown
answer_text (slots shown) = bracketed (map slot_text shown)
answer_text (numbers ns) = bracketed (map decimal ns)
answer_text (typed t) = type_word t
answer_text left = codes "left"
answer_text right = codes "right"
answer_text (refused why) = codes "refused: " ++ refusal_text why

-- the text of answers, each on a line of its own
abbrev pub answers_text : List (Answer ℤ) → List ℕ
answers_text = flat_map (λ answer. answer_text answer ++ line_feed ∷ [])

-- these bytes were appended to a text
abbrev pub AppendsText : String Global → String Global → List ℕ → Type 0
AppendsText old new bytes = string_bytes new ≡ string_bytes old ++ bytes
