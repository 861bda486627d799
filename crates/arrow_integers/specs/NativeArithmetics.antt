-- What arithmetic on native integers makes, through the integers that values are. Of the kit's words, `bits w` is the
-- number of bits of a value of this width, and `hbits w` is one less: without the sign of a signed value.
use Rattle.std.specs.Prelude.{ℕ, ℤ, ◌≡◌, ◌^◌, ◌&&◌, ◌+ℤ◌, ◌*ℤ◌, Bool, true, false, not, pos, negsuc, nat_lt, Option}
use Rattle.std.specs.Prelude.{Some, None, if◌then◌else◌, int_div, unsigned_abs}
use Rattle.std.specs.Int.{Width, int_rem_euclid, int_wrap, saturate_signed, saturate_unsigned}
use Rattle.std.specs.Ordering.{int_eq}
use mir.Val.{bits, hbits}

-- whether a signed type, and an unsigned type, of this width has this number
unfoldable pub fits_signed : Width → ℤ → Bool
fits_signed w (pos n) = nat_lt n (2 ^ hbits w)
fits_signed w (negsuc n) = nat_lt n (2 ^ hbits w)

unfoldable pub fits_unsigned : Width → ℤ → Bool
fits_unsigned w (pos n) = nat_lt n (2 ^ bits w)
fits_unsigned w (negsuc n) = false

-- the number of an unsigned type that differs from this one by a multiple of two to the number of bits
unfoldable pub wrap_unsigned : Width → ℤ → ℕ
wrap_unsigned w z = unsigned_abs (int_rem_euclid z (pos (2 ^ bits w)))

-- two numbers differ by a multiple of this one
abbrev pub DiffersByMultiple : ℕ → ℤ → ℤ → Type 0
DiffersByMultiple m x y = (k : ℤ) × (x ≡ y +ℤ k *ℤ pos m)

-- whether two numbers have a quotient that the type has
abbrev pub has_quotient : (ℤ → Bool) → ℤ → ℤ → Bool
has_quotient fits x y = not (int_eq y (pos 0)) && fits (int_div x y)

-- a value, if a condition holds
abbrev pub some_if : {X : Type 0} → Bool → X → Option X
some_if holds x = if holds then Some x else None

-- ---- what operations on numbers make of values. `number`, `fits` and `wrap` are those of `NativeArithmetics`; `back`
-- makes a value of a number, as `wrap` does, which wraps, and `nearest`, which stops at the ends of the type

module _ {X : Type 0} (number : X → ℤ) where
  -- the value of what an operation makes of two numbers
  abbrev pub lift : (ℤ → X) → (ℤ → ℤ → ℤ) → X → X → X
  lift back operation x y = back (operation (number x) (number y))

  -- the value of what an operation makes of two numbers, if that fits
  abbrev pub lift_checked : (ℤ → Bool) → (ℤ → X) → (ℤ → ℤ → ℤ) → X → X → Option X
  lift_checked fits wrap operation x y =
      some_if (fits (operation (number x) (number y))) (wrap (operation (number x) (number y)))

  -- the value of a quotient or a remainder, if the divisor is not zero and the quotient fits
  abbrev pub lift_division : (ℤ → Bool) → (ℤ → X) → (ℤ → ℤ → ℤ) → X → X → Option X
  lift_division fits wrap operation x y =
      some_if (has_quotient fits (number x) (number y)) (wrap (operation (number x) (number y)))

-- ---- the type of a width, which is signed if the boolean is true

-- how many bits its values have
abbrev pub bit_count : Width → ℕ
bit_count w = bits w

-- whether it has this number
abbrev pub fits_integer : Bool → Width → ℤ → Bool
fits_integer true w z = fits_signed w z
fits_integer false w z = fits_unsigned w z

-- its number that differs from this one by a multiple of two to the number of bits
abbrev pub wrap_integer : Bool → Width → ℤ → ℤ
wrap_integer true w z = int_wrap w z
wrap_integer false w z = pos (wrap_unsigned w z)

-- its number that is nearest to this one
abbrev pub nearest_integer : Bool → Width → ℤ → ℤ
nearest_integer true w z = saturate_signed w z
nearest_integer false w z = pos (saturate_unsigned w z)
