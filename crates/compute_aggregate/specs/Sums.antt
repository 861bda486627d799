-- Sums of integers, and how they are added up.
use Rattle.std.specs.Prelude.{ℕ, ℤ, pos, ◌+ℤ◌, ◌-ℤ◌, ◌*ℤ◌, ◌^◌, ◌&&◌, Bool, if◌then◌else◌, nat_le, unsigned_abs, Option}
use Rattle.std.specs.Prelude.{option_map, unwrap_or}
use Rattle.std.specs.Prelude.{◌≡◌, FitsSigned, MatchOption, false}
use Rattle.std.specs.Int.{Width, int_shr, int_wrap, w64, w128}
use Rattle.arrow_types.specs.declared.error.Error.{Error}
use Rattle.arrow_types.specs.declared.error.Error.TheVariants as error

-- adds a number whose magnitude is at most m, in wrapping arithmetic; a greater one clears the flag
abbrev pub add_small : Width → ℕ → ℤ × Bool → ℤ → ℤ × Bool
add_small w m state z = (
  int_wrap w (state.0 +ℤ (if nat_le (unsigned_abs z) m then z else pos 0)),
  state.1 && nat_le (unsigned_abs z) m,
)

-- a number in halves: the high one counts 2 ^ 32, and the low one is what is left
abbrev pub high_half : ℤ → ℤ
high_half z = int_shr z 32

abbrev pub low_half : ℤ → ℤ
low_half z = z -ℤ high_half z *ℤ pos (2 ^ 32)

-- the number of two halves
abbrev pub of_halves : ℤ × ℤ → ℤ
of_halves parts = parts.0 *ℤ pos (2 ^ 32) +ℤ parts.1

-- whether a number is at most 2 ^ 64 from zero; and that number if it is, else zero
abbrev pub is_wide : ℤ → Bool
is_wide z = nat_le (unsigned_abs z) (2 ^ 64)

abbrev pub wide_or_zero : ℤ → ℤ
wide_or_zero z = if is_wide z then z else pos 0

-- adds the halves of a number that is at most 2 ^ 64 from zero; a greater one clears the flag
abbrev pub add_halves : (ℤ × ℤ) × Bool → ℤ → (ℤ × ℤ) × Bool
add_halves state z = (
  (int_wrap w64 (state.0.0 +ℤ high_half (wide_or_zero z)), int_wrap w64 (state.0.1 +ℤ low_half (wide_or_zero z))),
  state.1 && is_wide z,
)

-- the number of high and low parts, of which the high one counts 2 ^ 64
abbrev pub sum_split : ℤ × ℕ → ℤ
sum_split parts = parts.0 *ℤ pos (2 ^ 64) +ℤ pos (parts.1)

-- the number of a slot, zero of a null
abbrev pub number_or_zero : {T : Type 0} → (T → ℤ) → Option T → ℤ
number_or_zero number slot = unwrap_or (option_map number slot) (pos 0)

-- a sum, or none exactly if it does not fit in 128 bits
abbrev pub IsTotal : ℤ → Option ℤ → Type 0
IsTotal total result = MatchOption result (FitsSigned w128 total → ⊥) (λ sum. sum ≡ total)

-- the error of a sum that does not fit; `fits` says which numbers the type has
abbrev pub TotalOverflows : (ℤ → Bool) → ℤ → Error → Type 0
TotalOverflows fits total e = (e ≡ error.Overflow) × (fits total ≡ false)
