-- Arrays of text over offsets of 32 bits.
use Rattle.std.specs.Prelude.{ℕ, ◌-◌, ◌^◌, false, List, None, true}
use Rattle.dethrugn.specs.Validation.{Tests}
use Rattle.dethrugn.specs.ByteValidation.{array_tests}
use Rattle.dethrugn.specs.Kinds.{text_layout, text_type, wrong_text_type}

-- the greatest offset
abbrev pub max_offset : ℕ
max_offset = 2 ^ 31 - 1

-- the tests of offsets and bytes without a mask
abbrev pub text_tests : List ℕ → List ℕ → Tests
text_tests offsets bytes =
    array_tests true (text_layout false) wrong_text_type (text_type false) offsets bytes None
