-- Conversions of slots between types, through the numbers that values are.
use Rattle.std.specs.Prelude.{◌≡◌, ◌⊎◌, ℕ, ℤ, pos, Bool, true, false, List, Option, Result, IfErr, not, option_map}
use Rattle.std.specs.Int.{from_bool}
use Rattle.std.specs.Ordering.{int_eq}
use Rattle.arrow_integers.specs.NativeArithmetics.{some_if}
use Rattle.arrow_types.specs.Types.{IsRightType, LogicalType, refusal}
use Rattle.arrow_types.specs.declared.error.Error.{Error}
use Rattle.arrow_types.specs.declared.error.Error.TheVariants as error
use Rattle.arrow_check.specs.Texts.{AreTexts, not_text}
use Rattle.arrow_bytes.specs.Column.{ByteColumn}
use Rattle.arrow_bytes.specs.Kinds.{text_layout, wrong_text_type}
use Rattle.arrow_column.specs.Column.{Column, stored_values, with_type}
use Rattle.arrow_column.specs.Validation.{AcceptedBy, IsFirstFailure, Tests, accept, test}
-- arrays whose slots are each made of a slot of another, and those that are null where there is no result
pub use Rattle.compute_base.specs.Slots.{MapsSlots, MapsSlotsIf}

module _ {X Z : Type 0} (number : X → ℤ) (fits : ℤ → Bool) (wrap : ℤ → Z) where
  -- the value of another type that has the number of this one, if there is one
  abbrev pub of_same_number : X → Option Z
  of_same_number x = some_if (fits (number x)) (wrap (number x))

  -- an array of this type whose slots have the numbers of the slots of another array. Either numbers that do not fit
  -- wrap, and a mask is held if the array holds one, or they become null, and a mask is held
  pub record CastsSlots (wrapped : Bool) (t : LogicalType) (array : Column X) (made : Column Z) : Type 0 where
    pub wrapping : wrapped ≡ true → MapsSlots t (option_map (λ x. wrap (number x))) array made
    pub fitting : wrapped ≡ false → MapsSlotsIf t of_same_number array made

-- the number of a boolean: one where it is true, else zero
abbrev pub number_of_bool : Bool → ℤ
number_of_bool b = pos (from_bool b)

-- the value of a type of numbers that is one where a boolean is true, else zero
abbrev pub value_of_bool : {Z : Type 0} → (ℤ → Z) → Bool → Z
value_of_bool wrap = λ b. wrap (number_of_bool b)

-- whether a number is not zero
abbrev pub is_nonzero : ℤ → Bool
is_nonzero z = not (int_eq z (pos 0))

-- the tests that make an array of bytes one of text of this type, in the order in which an array tests its parts: each
-- item is UTF-8 by itself, and the type has the physical type of an array of text
abbrev pub utf8_tests : Bool → List (List ℕ) → LogicalType → Tests
utf8_tests large items t =
    test (AreTexts items) not_text (test (IsRightType (text_layout large) t) wrong_text_type accept)

-- a call that succeeds returns the same array of bytes under this type, and it passes the tests of text
abbrev pub BecomesText : Bool → ByteColumn → LogicalType → Result ByteColumn Error → Type 0
BecomesText large array t result = AcceptedBy (utf8_tests large (stored_values array) t) result (with_type array t)

-- a call that fails returns the error of the first test of text that the array fails, or that an allocation failed
abbrev pub FailsAsText : {A : Type 0} → Bool → ByteColumn → LogicalType → Result A Error → Type 0
FailsAsText large array t result = IfErr result (λ e. (e ≡ error.OutOfMemory)
    ⊎ IsFirstFailure (utf8_tests large (stored_values array) t) (refusal e))
