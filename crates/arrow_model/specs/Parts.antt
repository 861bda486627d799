-- What comes of raw parts: the value that they make, or the refusal of the first test that they fail; and what the
-- test of texts among them costs.
use Rattle.std.specs.Prelude.{◌≡◌, ℕ, ◌*◌, ◌≤◌, ℤ, Bool, true, false, not, ◌&&◌, ◌||◌, ◌⊎◌, List, [], length, map}
use Rattle.std.specs.Prelude.{Option, Some, None, option_map, IfSome, is_none, if◌then◌else◌, MatchBool, unsigned_abs}
use Rattle.std.specs.Prelude.{unwrap_or}
use Rattle.arrow_types.specs.Types.{LogicalType, Refusal, out_of_spec}
use Rattle.arrow_column.specs.Validation.{Tests, test, Passes, IsFirstFailure}
use Rattle.arrow_column.specs.Column.{column_with}
use Rattle.arrow_memory.specs.Marks.{marks, bits_past_bytes}
use Rattle.arrow_memory.specs.Offsets.{first_fault}
use Rattle.arrow_check.specs.Pieces.{items_of}
use Rattle.arrow_check.specs.Reading.{Cost}
use Rattle.arrow_bytes.specs.Pieces.{Around, nothing_around, around_of}
use Rattle.arrow_bytes.specs.Kinds.{Costs, BuilderCosts, wrong_binary_type, wrong_binary_builder_type}
use Rattle.arrow_bytes.specs.Kinds.{wrong_text_type, wrong_text_builder_type}
use Rattle.arrow_bytes.specs.Validation as byte_array
use Rattle.arrow_primitive.specs.Fits as primitive
use Rattle.arrow_boolean.specs.Fits as bools
use Rattle.arrow_model.specs.Kind.{Group, frozen, with_nulls, values_alone, ValueKind, native, boolean, var_binary}
use Rattle.arrow_model.specs.Kind.{Shape, is_frozen, is_values_alone, is_native, is_boolean, is_var_binary, is_text}
use Rattle.arrow_model.specs.Item.{Stored, value, bit, bytes_item}
use Rattle.arrow_model.specs.Request.{Packed, RawValues, values, packed, cut_pieces}
use Rattle.arrow_model.specs.Answer.{Answer, refused, is_memory, is_not_met}
use Rattle.arrow_model.specs.Value.{Value, Types, layout}
use Rattle.arrow_model.specs.Transition.{Transition, leaves, memory, answers, where_true}

-- the refusal of a type that is not right
abbrev pub wrong_type_of : ValueKind → Bool → Refusal
wrong_type_of native is_frozen = primitive.wrong_primitive_type
wrong_type_of boolean is_frozen = if is_frozen then bools.wrong_boolean_type else bools.wrong_boolean_builder_type
wrong_type_of (var_binary false) is_frozen = if is_frozen then wrong_binary_type else wrong_binary_builder_type
wrong_type_of (var_binary true) is_frozen = if is_frozen then wrong_text_type else wrong_text_builder_type

-- bits lie within their bytes; and the marks that they are
abbrev pub BitsFit : Packed → Type 0
BitsFit p = p.length ≤ 8 * length p.bytes

abbrev pub marks_in : Packed → List Bool
marks_in p = marks p.bytes 0 p.length

-- what passes all tests makes this value; else the refusal is that of the first test that fails, and nothing is made
abbrev pub accepted : {T : Type 0} → Tests → Value T → Transition T
accepted tests made reply new =
    (Passes tests × leaves made reply new) ⊎ ((why : Refusal) × IsFirstFailure tests why
    × answers None (refused why) reply new)

-- tests that come before others: that bits, where there are any, lie within their bytes, and that offsets are legal
abbrev pub bits_test : Option Packed → Tests → Tests
bits_test bits others = test (IfSome bits BitsFit) bits_past_bytes others

abbrev pub offsets_test : List ℤ → Tests → Tests
offsets_test numbers others = test (first_fault numbers ≡ None) (out_of_spec (unwrap_or (first_fault numbers) []))
    others

-- the tests of an array's parts, and those of a builder's
abbrev pub boolean_tests : Group → LogicalType → List Bool → Option (List Bool) → Tests
boolean_tests frozen = bools.boolean_array_tests
boolean_tests with_nulls = bools.boolean_builder_tests
boolean_tests values_alone = bools.boolean_builder_tests

module _ {T : Type 0} (c : Types T) where
  abbrev pub pieces_tests : Group → Bool → LogicalType → List ℕ → List ℕ → Option (List Bool) → Tests
  pieces_tests frozen text = byte_array.array_tests text (layout c (var_binary text))
      (wrong_type_of (var_binary text) true)
  pieces_tests with_nulls text = byte_array.builder_tests text (layout c (var_binary text))
      (wrong_type_of (var_binary text) false)
  pieces_tests values_alone text = λ t offsets bytes mask. byte_array.values_builder_tests text
      (layout c (var_binary text)) (wrong_type_of (var_binary text) false) t offsets bytes

  module _ (s : Shape) (t : LogicalType) (mask : Option Packed) where
    -- the value that they make
    abbrev pub made : Around → List (Stored T) → Value T
    made around stored = record { shape = s; column = column_with t around stored (option_map marks_in mask) }

    -- raw stored values have to be of the kind's own value kind, and a builder of values alone has no mask
    abbrev pub PartsTransition : RawValues T → Transition T
    PartsTransition (values xs) =
        where_true None (is_native s)
        (memory None (accepted (bits_test mask (primitive.parts_tests c.primitive t xs (option_map marks_in mask)))
        (made nothing_around (map value xs))))
    PartsTransition (packed p) =
        where_true None (is_boolean s)
        (memory None (accepted
        (bits_test (Some p) (bits_test mask (boolean_tests s.group t (marks_in p) (option_map marks_in mask))))
        (made nothing_around (map bit (marks_in p)))))
    PartsTransition (cut_pieces numbers bytes) =
        let offsets = map unsigned_abs numbers in
        where_true None (is_var_binary s && (not (is_values_alone s) || is_none mask))
        (memory None (accepted
        (offsets_test numbers
        (bits_test mask (pieces_tests s.group (is_text s) t offsets bytes (option_map marks_in mask))))
        (made (around_of offsets bytes) (map (bytes_item (is_text s)) (items_of offsets bytes)))))

-- what the test of text costs for parts of offsets and bytes: nothing if the command's condition fails, if memory is
-- refused, if the offsets are not legal, or if the mask has too few bits
abbrev pub PartsCost : {T : Type 0} → Shape → Option Packed → List ℤ → List ℕ → Answer T → Cost → Cost → Type 0
PartsCost s mask numbers bytes reply old new =
    let IsTested : Type 0 = (is_not_met reply ≡ false) × (is_memory reply ≡ false) × (first_fault numbers ≡ None)
    × IfSome mask BitsFit in
    let offsets = map unsigned_abs numbers in
    (IsTested → MatchBool (is_frozen s) (Costs (is_text s) offsets bytes old new)
    (BuilderCosts (is_text s) offsets bytes old new))
    × ((IsTested → ⊥) → new ≡ old)
