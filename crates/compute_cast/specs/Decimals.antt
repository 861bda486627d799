-- Numbers as decimal text. A type of integers is described as by `NativeArithmetics`: `number` is the number of a
-- value, `fits` says which numbers the type has, and `wrap` makes a value of a number.
use Rattle.std.specs.Prelude.{◌≡◌, ◌&&◌, ◌^◌, ℕ, ℤ, pos, negsuc, neg_ℤ, Bool, List, length, map, Option, option_and_then, option_map}
use Rattle.std.specs.Prelude.{if◌then◌else◌, nat_lt}
use Rattle.std.specs.Fmt.{signed_decimal}
use Rattle.std.specs.List.{sum_by}
use Rattle.std.specs.Option.{option_map_or}
use Rattle.std.specs.Str.{all_ascii_digits}
use Rattle.std.specs.Str.Parse.{digits_value, starts_with_minus, without_leading_plus, without_leading_sign}
use Rattle.arrow_integers.specs.NativeArithmetics.{some_if}
use Rattle.arrow_types.specs.Types.{LogicalType}
use Rattle.arrow_types.specs.declared.error.Error.{Error}
use Rattle.arrow_column.specs.Column.{Column, array_of_slots, refused_growth}
use Rattle.arrow_bytes.specs.Appends.{FrozenOfSlots}
use Rattle.arrow_bytes.specs.Column.{ByteColumn}

-- the decimal text of the number of a value
abbrev pub value_decimal : {X : Type 0} → (X → ℤ) → X → List ℕ
value_decimal number x = signed_decimal (number x)

-- an array of this type has the decimal text of the number of each slot, and holds a mask exactly if one is null
abbrev pub MakesDecimals : {X : Type 0} → (X → ℤ) → ℕ → LogicalType → List (Option X) → ByteColumn → Type 0
MakesDecimals number most = FrozenOfSlots (value_decimal number) most

-- the number of bytes of the decimal texts of these slots; a null has none
abbrev pub decimal_bytes : {X : Type 0} → (X → ℤ) → List (Option X) → ℕ
decimal_bytes number slots = sum_by (λ slot. option_map_or (λ x. length (value_decimal number x)) slot 0) slots

-- the error if no array is made: the texts have more bytes than the greatest offset, or else an allocation failed
abbrev pub DecimalsRefused : {X : Type 0} → (X → ℤ) → ℕ → List (Option X) → Error → Type 0
DecimalsRefused number most slots e = e ≡ refused_growth (nat_lt most (decimal_bytes number slots))

-- the text after its sign, if it has one: a plus, or a minus if the type is signed
abbrev pub digits_of_text : Bool → List ℕ → List ℕ
digits_of_text is_signed text = if is_signed then without_leading_sign text else without_leading_plus text

-- a number, or its negation
abbrev pub with_sign : Bool → ℕ → ℤ
with_sign is_negative n = if is_negative then neg_ℤ (pos n) else pos n

-- the number of a sign and digits
abbrev pub number_written : Bool → List ℕ → ℤ
number_written is_signed text =
    with_sign (is_signed && starts_with_minus text) (digits_value 10 (digits_of_text is_signed text))

-- whether these bytes are digits, at least one
abbrev pub is_numeral : List ℕ → Bool
is_numeral digits = nat_lt 0 (length digits) && all_ascii_digits digits

-- the value of these bytes if they are digits and it fits in 128 bits
abbrev pub wide_value : List ℕ → Option ℕ
wide_value digits =
    some_if (all_ascii_digits digits && nat_lt (digits_value 10 digits) (2 ^ 128)) (digits_value 10 digits)

-- the number that a text is in a type, if it is one: an optional sign and digits, whose number fits in the type; a type
-- is signed if it has negative numbers
abbrev pub number_of_text : (ℤ → Bool) → List ℕ → Option ℤ
number_of_text fits text = let is_signed = fits (negsuc 0) in
    some_if (is_numeral (digits_of_text is_signed text) && fits (number_written is_signed text))
    (number_written is_signed text)

module _ {X : Type 0} (fits : ℤ → Bool) (wrap : ℤ → X) where
  -- the value of the number that a text is, if it is one
  abbrev pub value_of_text : List ℕ → Option X
  value_of_text text = option_map wrap (number_of_text fits text)

  -- the value of the number that the text of a slot is: null if the slot is null or its text is not a number of the
  -- type
  abbrev pub value_of_slot : Option (List ℕ) → Option X
  value_of_slot text = option_and_then value_of_text text

  -- the array of this type with the values of texts, which holds a mask exactly if a slot is null
  abbrev pub array_of_texts : X → LogicalType → List (Option (List ℕ)) → Column X
  array_of_texts zero t texts = array_of_slots zero t (map value_of_slot texts)
