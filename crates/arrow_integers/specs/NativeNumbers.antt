-- How the numbers of each type of integers meet the laws of `NativeInteger` and `NativeArithmetics`: their
-- implementations cite these.
use Rattle.std.specs.Prelude.{◌≡◌, ◌-◌, ◌/◌, ◌%◌, ◌^◌, ◌<◌, ◌≤◌, ◌+ℤ◌, ◌*ℤ◌, ◌≤ℤ◌, ℕ, zero, suc, ℤ, Bool, true}
use Rattle.std.specs.Prelude.{false, pos, negsuc, unsigned_abs, FitsSigned}
use Rattle.std.specs.Bool.{Decides}
use Rattle.std.specs.Int.{Width, w8, w16, w32, w64, w128, FitsUnsignedBits, cast_signed, int_rem_euclid, int_wrap}
use Rattle.std.specs.Int.{saturate_signed, saturate_unsigned}
use Rattle.std.proofs.Common.{ap, arith, div-add-mod', inl, inr, mod-lt, refl, subst, suc-mul, sym, zero-mul, ◌∙◌}
use Rattle.std.proofs.Math.Nat.{mod-eq_of_lt}
use Rattle.std.proofs.lemmas.Bool.{cases_lt, le-ltb, lt-ltb, ltb-true}
use Rattle.std.proofs.lemmas.Bool.Decides.{Decides-ltb}
use Rattle.std.proofs.lemmas.Int.{SFits-int_wrap, int_wrap_fits, ints, to_z_pos}
use Rattle.std.proofs.lemmas.Nat.{pow_pos}
use Rattle.num_traits.specs.Laws.{Saturates, wrap_signed}
use Rattle.arrow_integers.specs.NativeArithmetics.{DiffersByMultiple, fits_integer, fits_signed, fits_unsigned}
use Rattle.arrow_integers.specs.NativeArithmetics.{nearest_integer, wrap_integer, wrap_unsigned}
use mir.Val.{bits, hbits, sel}

-- ---- which numbers a type has

pub signed_decides : (w : Width) (z : ℤ) → Decides (fits_signed w z) (FitsSigned w z)
unfolding fits_signed
signed_decides w (pos n) = (λ e. record { sfits = ltb-true n (2 ^ hbits w) e }, λ f. lt-ltb n (2 ^ hbits w) f.sfits)
signed_decides w (negsuc n) = (λ e. record { sfits = ltb-true n (2 ^ hbits w) e }, λ f. lt-ltb n (2 ^ hbits w) f.sfits)

pub unsigned_decides : (w : Width) (n : ℕ) → Decides (fits_unsigned w (pos n)) (n < 2 ^ bits w)
unfolding fits_unsigned
unsigned_decides w n = Decides-ltb n (2 ^ bits w)

pub unsigned_fits_is : (w : Width) (z : ℤ) → Decides (fits_unsigned w z) (FitsUnsignedBits (bits w) z)
unfolding fits_unsigned
unsigned_fits_is w (pos n) = Decides-ltb n (2 ^ bits w)
unsigned_fits_is w (negsuc n) = (λ e. cc, λ f. absurd f)

-- the value of a number of an unsigned type is its magnitude
pub unsigned_value : (w : Width) (z : ℤ) → fits_unsigned w z ≡ true → pos (unsigned_abs z) ≡ z
unfolding fits_unsigned
unsigned_value w (pos n) e = refl
unsigned_value w (negsuc n) e = cc

-- every number of a type is one of a signed type that is wider
pub signed_in_128_bits : (w : Width) (z : ℤ) → fits_signed w z ≡ true → FitsSigned w128 z
signed_in_128_bits w8 z e = let f = ((signed_decides w8 z).0 e).sfits in record { sfits = omega arith }
signed_in_128_bits w16 z e = let f = ((signed_decides w16 z).0 e).sfits in record { sfits = omega arith }
signed_in_128_bits w32 z e = let f = ((signed_decides w32 z).0 e).sfits in record { sfits = omega arith }
signed_in_128_bits w64 z e = let f = ((signed_decides w64 z).0 e).sfits in record { sfits = omega arith }
signed_in_128_bits w128 z e = (signed_decides w128 z).0 e

-- every number of a narrower unsigned type is one of a signed type
abbrev pub is_narrow : Width → Bool
is_narrow w8 = true
is_narrow w16 = true
is_narrow w32 = true
is_narrow w64 = true
is_narrow w128 = false

pub unsigned_in_128_bits : (w : Width) → is_narrow w ≡ true → (z : ℤ) → fits_unsigned w z ≡ true → FitsSigned w128 z
unfolding fits_unsigned
unsigned_in_128_bits w8 e (pos n) f = let h = ltb-true n (2 ^ 8) f in record { sfits = omega arith }
unsigned_in_128_bits w16 e (pos n) f = let h = ltb-true n (2 ^ 16) f in record { sfits = omega arith }
unsigned_in_128_bits w32 e (pos n) f = let h = ltb-true n (2 ^ 32) f in record { sfits = omega arith }
unsigned_in_128_bits w64 e (pos n) f = let h = ltb-true n (2 ^ 64) f in record { sfits = omega arith }
unsigned_in_128_bits w128 e (pos n) f = cc
unsigned_in_128_bits w e (negsuc n) f = cc

-- ---- numbers that wrap

-- the kit wraps a number to the same
pub signed_wrap_is : (w : Width) (z : ℤ) → wrap_signed w z ≡ int_wrap w z
unfolding int_wrap
signed_wrap_is w8 z = refl
signed_wrap_is w16 z = refl
signed_wrap_is w32 z = refl
signed_wrap_is w64 z = refl
signed_wrap_is w128 z = refl

pub unsigned_wrap_is : (w : Width) (z : ℤ) → int_rem_euclid z (pos (2 ^ bits w)) ≡ pos (wrap_unsigned w z)
unfolding wrap_unsigned
unsigned_wrap_is w (pos n) = refl
unsigned_wrap_is w (negsuc n) = refl

below_top : (m r : ℕ) → 0 < m → m - 1 - r < m
below_top m r h = omega arith

wrapped_below : (w : Width) (z : ℤ) → wrap_unsigned w z < 2 ^ bits w
unfolding wrap_unsigned
wrapped_below w (pos n) = mod-lt n (pow_pos (bits w))
wrapped_below w (negsuc n) = below_top (2 ^ bits w) (n % 2 ^ bits w) (pow_pos (bits w))

stays_below : (w : Width) (n : ℕ) → n < 2 ^ bits w → wrap_unsigned w (pos n) ≡ n
unfolding wrap_unsigned
stays_below w n h = mod-eq_of_lt h

-- a number wraps to one of the type's
pub wrap_integer_fits : (signed : Bool) (w : Width) (z : ℤ) → fits_integer signed w (wrap_integer signed w z) ≡ true
wrap_integer_fits true w z = (signed_decides w (int_wrap w z)).1 (SFits-int_wrap w z)
wrap_integer_fits false w z = (unsigned_decides w (wrap_unsigned w z)).1 (wrapped_below w z)

-- a number of the type does not wrap
pub wrap_integer_same : (signed : Bool) (w : Width) (z : ℤ) → fits_integer signed w z ≡ true
    → wrap_integer signed w z ≡ z
unfolding fits_unsigned
wrap_integer_same true w z e = int_wrap_fits w z ((signed_decides w z).0 e)
wrap_integer_same false w (pos n) e = ap pos (stays_below w n (ltb-true n (2 ^ bits w) e))
wrap_integer_same false w (negsuc n) e = cc

remainder_differs : (z : ℤ) (m : ℕ) → 0 < m → DiffersByMultiple m z (int_rem_euclid z (pos m))
remainder_differs (pos n) m h = (pos (n / m), omega (arith, ints, div-add-mod' n m))
remainder_differs (negsuc n) m h =
    (negsuc (n / m), omega (arith, ints, div-add-mod' n m, mod-lt n h, suc-mul (n / m) m))

unsigned_differs : (w : Width) (z : ℤ) → DiffersByMultiple (2 ^ bits w) z (pos (wrap_unsigned w z))
unfolding wrap_unsigned
unsigned_differs w (pos n) = remainder_differs (pos n) (2 ^ bits w) (pow_pos (bits w))
unsigned_differs w (negsuc n) = remainder_differs (negsuc n) (2 ^ bits w) (pow_pos (bits w))

-- bits whose first is set are, as a number of a signed type, less by two to their number
first_set : (w : Width) (r : ℕ) → 2 ^ hbits w ≤ r → cast_signed w r ≡ negsuc (2 ^ bits w - suc r)
first_set w r high = ap (λ b. sel b (pos r) (negsuc (2 ^ bits w - suc r))) (le-ltb r (2 ^ hbits w) high)

once_more : (m : ℕ) (z : ℤ) (r : ℕ) (k : ℤ) → r < m → z ≡ pos r +ℤ k *ℤ pos m
    → DiffersByMultiple m z (negsuc (m - suc r))
once_more m z r (pos q) h e = (pos (suc q), e ∙ omega (arith, ints, suc-mul q m))
once_more m z r (negsuc zero) h e = (pos 0, e ∙ omega (arith, ints, suc-mul 0 m, zero-mul m))
once_more m z r (negsuc (suc q)) h e = (negsuc q, e ∙ omega (arith, ints, suc-mul (suc q) m))

as_signed : (w : Width) (z : ℤ) (r : ℕ) → r < 2 ^ bits w → DiffersByMultiple (2 ^ bits w) z (pos r)
    → DiffersByMultiple (2 ^ bits w) z (cast_signed w r)
as_signed w z r h d = elim (cases_lt r (2 ^ hbits w)) [
  | inl low ↦ subst (DiffersByMultiple (2 ^ bits w) z) (sym (to_z_pos w r low)) d
  | inr high ↦ subst (DiffersByMultiple (2 ^ bits w) z) (sym (first_set w r high))
      (once_more (2 ^ bits w) z r (d.0) h (d.1))
]

signed_differs : (w : Width) (z : ℤ) → DiffersByMultiple (2 ^ bits w) z (int_wrap w z)
unfolding int_wrap wrap_unsigned
signed_differs w z = as_signed w z (wrap_unsigned w z) (wrapped_below w z) (unsigned_differs w z)

-- a number that wraps changes by a multiple of two to the number of bits
wrap_integer_differs : (signed : Bool) (w : Width) (z : ℤ)
    → DiffersByMultiple (2 ^ bits w) z (wrap_integer signed w z)
wrap_integer_differs true w z = signed_differs w z
wrap_integer_differs false w z = unsigned_differs w z

-- ---- the nearest number of a type

-- what stops at the ends of a type is its nearest number
pub signed_nearest_is : (w : Width) (z v : ℤ)
    → Saturates (λ y. y) (λ y. FitsSigned w y) (negsuc (2 ^ hbits w - 1)) (pos (2 ^ hbits w - 1)) z v
    → v ≡ saturate_signed w z
signed_nearest_is w (pos n) v h = elim (cases_lt n (2 ^ hbits w)) [
  | inl low ↦ h.0 (record { sfits = low }) ∙ ap pos (omega arith)
  | inr high ↦ h.1 (omega (arith, ints, pow_pos (hbits w))) ∙ ap pos (omega arith)
]
signed_nearest_is w (negsuc n) v h = elim (cases_lt n (2 ^ hbits w)) [
  | inl low ↦ h.0 (record { sfits = low }) ∙ ap negsuc (omega arith)
  | inr high ↦ h.2 (omega (arith, ints, pow_pos (hbits w))) ∙ ap negsuc (omega arith)
]

pub unsigned_nearest_is : (w : Width) (z v : ℤ)
    → Saturates (λ y. y) (FitsUnsignedBits (bits w)) (pos 0) (pos (2 ^ bits w - 1)) z v
    → v ≡ pos (saturate_unsigned w z)
unsigned_nearest_is w (pos n) v h = elim (cases_lt n (2 ^ bits w)) [
  | inl low ↦ h.0 low ∙ ap pos (omega (arith, ints))
  | inr high ↦ h.1 (omega (arith, ints, pow_pos (bits w))) ∙ ap pos (omega (arith, ints))
]
unsigned_nearest_is w (negsuc n) v h = h.2 (omega (arith, ints)) ∙ ap pos (omega (arith, ints))

nearest_integer_fits : (signed : Bool) (w : Width) (z : ℤ)
    → fits_integer signed w (nearest_integer signed w z) ≡ true
nearest_integer_fits true w (pos n) =
    (signed_decides w (saturate_signed w (pos n))).1 (record { sfits = omega (arith, pow_pos (hbits w)) })
nearest_integer_fits true w (negsuc n) =
    (signed_decides w (saturate_signed w (negsuc n))).1 (record { sfits = omega (arith, pow_pos (hbits w)) })
nearest_integer_fits false w z = (unsigned_decides w (saturate_unsigned w z)).1 (omega (arith, pow_pos (bits w)))

-- a number of the type is the nearest to itself
nearest_integer_same : (signed : Bool) (w : Width) (z : ℤ) → fits_integer signed w z ≡ true
    → nearest_integer signed w z ≡ z
unfolding fits_unsigned
nearest_integer_same true w (pos n) e = let f = ((signed_decides w (pos n)).0 e).sfits in ap pos (omega arith)
nearest_integer_same true w (negsuc n) e = let f = ((signed_decides w (negsuc n)).0 e).sfits in ap negsuc (omega arith)
nearest_integer_same false w (pos n) e = let f = ltb-true n (2 ^ bits w) e in omega (arith, ints)
nearest_integer_same false w (negsuc n) e = cc

-- no number of the type that is not below this one is below it, and none that is not above this one is above it
nearest_integer_below : (signed : Bool) (w : Width) (z y : ℤ) → fits_integer signed w y ≡ true → z ≤ℤ y
    → nearest_integer signed w z ≤ℤ y
unfolding fits_unsigned
nearest_integer_below true w (pos a) (pos b) e h = omega (arith, ints)
nearest_integer_below true w (pos a) (negsuc b) e h = omega (arith, ints)
nearest_integer_below true w (negsuc a) (pos b) e h = omega (arith, ints)
nearest_integer_below true w (negsuc a) (negsuc b) e h =
    let f = ((signed_decides w (negsuc b)).0 e).sfits in omega (arith, ints)
nearest_integer_below false w z (pos b) e h = omega (arith, ints)
nearest_integer_below false w z (negsuc b) e h = cc

nearest_integer_above : (signed : Bool) (w : Width) (z y : ℤ) → fits_integer signed w y ≡ true → y ≤ℤ z
    → y ≤ℤ nearest_integer signed w z
unfolding fits_unsigned
nearest_integer_above true w (pos a) (pos b) e h = let f = ((signed_decides w (pos b)).0 e).sfits in omega (arith, ints)
nearest_integer_above true w (pos a) (negsuc b) e h = omega (arith, ints)
nearest_integer_above true w (negsuc a) (pos b) e h = omega (arith, ints)
nearest_integer_above true w (negsuc a) (negsuc b) e h = omega (arith, ints)
nearest_integer_above false w z (pos b) e h = let f = ltb-true b (2 ^ bits w) e in omega (arith, ints)
nearest_integer_above false w z (negsuc b) e h = cc

-- ---- the values to which numbers wrap, and the nearest values

module _ {X : Type 0} (value : X → ℤ) (of_number : ℤ → X) (signed : Bool) (w : Width)
    (back : (z : ℤ) → fits_integer signed w z ≡ true → value (of_number z) ≡ z) where
  wrap_value_is : (z : ℤ) → value (of_number (wrap_integer signed w z)) ≡ wrap_integer signed w z
  wrap_value_is z = back (wrap_integer signed w z) (wrap_integer_fits signed w z)

  pub wrap_value_fits : (z : ℤ) → fits_integer signed w (value (of_number (wrap_integer signed w z))) ≡ true
  wrap_value_fits z = ap (fits_integer signed w) (wrap_value_is z) ∙ wrap_integer_fits signed w z

  pub wrap_value_same : (z : ℤ) → fits_integer signed w z ≡ true → value (of_number (wrap_integer signed w z)) ≡ z
  wrap_value_same z e = wrap_value_is z ∙ wrap_integer_same signed w z e

  pub wrap_value_differs : (z : ℤ) → DiffersByMultiple (2 ^ bits w) z (value (of_number (wrap_integer signed w z)))
  wrap_value_differs z = subst (DiffersByMultiple (2 ^ bits w) z) (sym (wrap_value_is z)) (wrap_integer_differs signed w z)

  nearest_value_is : (z : ℤ) → value (of_number (nearest_integer signed w z)) ≡ nearest_integer signed w z
  nearest_value_is z = back (nearest_integer signed w z) (nearest_integer_fits signed w z)

  pub nearest_value_fits : (z : ℤ) → fits_integer signed w (value (of_number (nearest_integer signed w z))) ≡ true
  nearest_value_fits z = ap (fits_integer signed w) (nearest_value_is z) ∙ nearest_integer_fits signed w z

  pub nearest_value_same : (z : ℤ) → fits_integer signed w z ≡ true
      → value (of_number (nearest_integer signed w z)) ≡ z
  nearest_value_same z e = nearest_value_is z ∙ nearest_integer_same signed w z e

  pub nearest_value_below : (z y : ℤ) → fits_integer signed w y ≡ true → z ≤ℤ y
      → value (of_number (nearest_integer signed w z)) ≤ℤ y
  nearest_value_below z y e h = subst (λ v. v ≤ℤ y) (sym (nearest_value_is z)) (nearest_integer_below signed w z y e h)

  pub nearest_value_above : (z y : ℤ) → fits_integer signed w y ≡ true → y ≤ℤ z
      → y ≤ℤ value (of_number (nearest_integer signed w z))
  nearest_value_above z y e h = subst (λ v. y ≤ℤ v) (sym (nearest_value_is z)) (nearest_integer_above signed w z y e h)
