-- Lemmas about numbers that wrap.
use Rattle.std.proofs.Common.{◌≡◌, ◌-◌, ◌*◌, ◌%◌, ◌^◌, ℕ, ℤ, suc, pos, negsuc, refl, ap, sym, arith}
use Rattle.std.specs.Int.{Width, w8, w16, w32, w64, w128, cast_signed, cast_unsigned, int_wrap}
use Rattle.std.specs.Prelude.{FitsSigned, unsigned_abs}
use Rattle.std.proofs.lemmas.Int.{ints, int_rem_euclid_is}
use Rattle.std.proofs.lemmas.Nat.{pow_pos}
use Rattle.arrow_integers.specs.NativeArithmetics.{wrap_unsigned}
use mir.Val.{bits}

-- what is left of the bits of a number of 128 bits
module _ (w : Width) (apart : ℕ) (whole : apart * 2 ^ bits w ≡ 2 ^ 128) where
  lowest : (z : ℤ) → FitsSigned w128 z → cast_unsigned w128 z % 2 ^ bits w ≡ wrap_unsigned w z
  unfolding wrap_unsigned
  lowest (pos n) f = refl
  lowest (negsuc n) f =
      let small = f.sfits in
      ap unsigned_abs (sym (int_rem_euclid_is (negsuc n) (pos (2 ^ bits w)) (2 ^ bits w) apart (2 ^ 128 - suc n)
      (pow_pos (bits w)) refl (omega (arith, ints, whole))))

pub wraps_unsigned : (w : Width) (z : ℤ) → FitsSigned w128 z → cast_unsigned w128 z % 2 ^ bits w ≡ wrap_unsigned w z
wraps_unsigned w8 z f = lowest w8 (2 ^ 120) refl z f
wraps_unsigned w16 z f = lowest w16 (2 ^ 112) refl z f
wraps_unsigned w32 z f = lowest w32 (2 ^ 96) refl z f
wraps_unsigned w64 z f = lowest w64 (2 ^ 64) refl z f
wraps_unsigned w128 z f = lowest w128 1 refl z f

pub wraps_signed : (w : Width) (z : ℤ) → cast_signed w (wrap_unsigned w z) ≡ int_wrap w z
unfolding wrap_unsigned int_wrap
wraps_signed w z = refl
