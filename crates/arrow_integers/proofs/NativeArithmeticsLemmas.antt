-- What proofs of methods of `NativeArithmetics` cite: what the laws of `num_traits` say of an answer, as a function of
-- numbers.
use Rattle.std.proofs.Common.{◌≡◌, ◌≢◌, ◌-◌, ◌/◌, ◌%◌, ◌^◌, ◌<◌, ◌&&◌, ℕ, ℤ, zero, suc, Bool, true, false, not}
use Rattle.std.proofs.Common.{pos, negsuc, neg_ℤ, Option, Some, None, FitsSigned, int_div, int_rem, unwrap_or}
use Rattle.std.proofs.Common.{ap, arith, inl, inr, lt_of_le_of_lt, refl, sym, ◌∙◌}
use Rattle.std.specs.Prelude.{◌↔◌}
use Rattle.std.specs.Bool.{Decides}
use Rattle.std.specs.Int.{Width, w8, w16, w32, w64, w128, int_wrap}
use Rattle.std.specs.Ordering.{int_eq}
use Rattle.std.proofs.Math.Nat.{div-le_self, div-lt_self, div-one, mod-le, mod-one}
use Rattle.std.proofs.lemmas.Bool.{cases_lt, false_from_ne_true}
use Rattle.std.proofs.lemmas.Bool.Decides.{Decides-and, Decides-int_eq, Decides-not}
use Rattle.num_traits.specs.Laws.{Checks, Divides}
use Rattle.arrow_integers.specs.NativeArithmetics.{fits_integer, fits_unsigned, has_quotient, some_if, wrap_integer}
use Rattle.arrow_integers.specs.NativeNumbers.{signed_decides, unsigned_decides, wrap_integer_same}
use lib.Signed.{mag, mag_rem}
use mir.Val.{hbits}

-- ---- a quotient that does not fit

mag-neg : (n : ℕ) → mag (neg_ℤ (pos n)) ≡ n - 1
mag-neg zero = refl
mag-neg (suc n) = omega arith

end-wraps : (w : Width) → int_wrap w (pos (2 ^ hbits w)) ≡ negsuc (2 ^ hbits w - 1)
unfolding int_wrap
end-wraps w8 = refl
end-wraps w16 = refl
end-wraps w32 = refl
end-wraps w64 = refl
end-wraps w128 = refl

-- it is that of the least number by -1
signed-no-quotient : (w : Width) (x y : ℤ) → FitsSigned w x → (FitsSigned w (int_div x y) → ⊥)
    → (int_wrap w (int_div x y) ≡ x) × (int_rem x y ≡ pos 0)
signed-no-quotient w (pos a) (pos b) f unfit =
    absurd (unfit (record { sfits = omega (arith, div-le_self a b, f.sfits) }))
signed-no-quotient w (pos a) (negsuc b) f unfit =
    absurd (unfit (record { sfits = omega (arith, mag-neg (a / suc b), div-le_self a (suc b), f.sfits) }))
signed-no-quotient w (negsuc a) (pos b) f unfit =
    absurd (unfit (record { sfits = omega (arith, mag-neg (suc a / b), div-le_self (suc a) b, f.sfits) }))
signed-no-quotient w (negsuc a) (negsuc zero) f unfit = elim (cases_lt (suc a) (2 ^ hbits w)) [
  | inl low ↦ absurd (unfit (record { sfits = omega (arith, div-one (suc a), low) }))
  | inr high ↦
      let is : suc a ≡ 2 ^ hbits w = omega (arith, f.sfits, high) in (
        ap (λ n. int_wrap w (pos n)) (div-one (suc a) ∙ is) ∙ end-wraps w ∙ ap negsuc (omega arith),
        ap (λ n. neg_ℤ (pos n)) (mod-one (suc a)),
      )
]
signed-no-quotient w (negsuc a) (negsuc (suc b)) f unfit =
    let less : suc a / suc (suc b) < suc a = div-lt_self (omega arith) (omega arith) in
    absurd (unfit (record { sfits = omega (arith, f.sfits) }))

no-quotient : (signed : Bool) (w : Width) (x y : ℤ) → fits_integer signed w x ≡ true → fits_integer signed w y ≡ true
    → fits_integer signed w (int_div x y) ≡ false → (wrap_integer signed w (int_div x y) ≡ x) × (int_rem x y ≡ pos 0)
unfolding fits_unsigned
no-quotient true w x y e f none = signed-no-quotient w x y ((signed_decides w x).0 e)
    (λ fits. let clash : true ≡ false = sym ((signed_decides w (int_div x y)).1 fits) ∙ none in cc)
no-quotient false w (pos a) (pos b) e f none =
    let small = lt_of_le_of_lt (div-le_self a b) ((unsigned_decides w a).0 e) in
    let clash : true ≡ false = sym ((unsigned_decides w (a / b)).1 small) ∙ none in cc
no-quotient false w (pos a) (negsuc b) e f none = cc
no-quotient false w (negsuc a) y e f none = cc

signed-remainder : (w : Width) (x y : ℤ) → FitsSigned w x → FitsSigned w (int_rem x y)
signed-remainder w x y f = record { sfits = omega (arith, mag_rem x y, f.sfits) }

remainder-fits : (signed : Bool) (w : Width) (x y : ℤ) → fits_integer signed w x ≡ true
    → fits_integer signed w (int_rem x y) ≡ true
unfolding fits_unsigned
remainder-fits true w x y e = (signed_decides w (int_rem x y)).1 (signed-remainder w x y ((signed_decides w x).0 e))
remainder-fits false w (pos a) (pos b) e =
    (unsigned_decides w (a % b)).1 (lt_of_le_of_lt (mod-le a b) ((unsigned_decides w a).0 e))
remainder-fits false w (pos a) (negsuc b) e =
    (unsigned_decides w (a % suc b)).1 (lt_of_le_of_lt (mod-le a (suc b)) ((unsigned_decides w a).0 e))
remainder-fits false w (negsuc a) y e = cc

has-no-quotient : (fits : ℤ → Bool) (x y : ℤ) → y ≢ pos 0 → has_quotient fits x y ≡ false → fits (int_div x y) ≡ false
has-no-quotient fits x y h none = sym (ap (λ b. not b && fits (int_div x y))
    (false_from_ne_true (int_eq y (pos 0)) (λ e. h ((Decides-int_eq y (pos 0)).0 e)))) ∙ none

-- what stands for an answer that there is not
or-else : {X : Type 0} (b : Bool) (made instead result : X) (answer : Option X) → answer ≡ some_if b made
    → result ≡ unwrap_or answer instead → (b ≡ false → instead ≡ made) → result ≡ made
or-else true made instead result answer is e same = e ∙ ap (λ o. unwrap_or o instead) is
or-else false made instead result answer is e same = e ∙ ap (λ o. unwrap_or o instead) is ∙ same refl

-- ---- values by their numbers

module _ {X : Type 0} (value : X → ℤ) (of_number : ℤ → X) (back : (x : X) → of_number (value x) ≡ x) where
  pub value-of : (x : X) (z : ℤ) → value x ≡ z → x ≡ of_number z
  value-of x z e = sym (back x) ∙ ap of_number e

  module _ (signed : Bool) (w : Width) where
    abbrev fits : ℤ → Bool
    fits = fits_integer signed w

    abbrev wrap : ℤ → X
    wrap z = of_number (wrap_integer signed w z)

    wraps : (x : X) (z : ℤ) → fits z ≡ true → value x ≡ z → x ≡ wrap z
    wraps x z e is = value-of x z is ∙ ap of_number (sym (wrap_integer_same signed w z e))

    -- a value, and none where it does not fit
    pub checked-value : (Fits : ℤ → Type 0) (z : ℤ) → Decides (fits_integer signed w z) (Fits z) → (answer : Option X)
        → Checks value Fits z answer → answer ≡ some_if (fits_integer signed w z) (of_number (wrap_integer signed w z))
    checked-value Fits z d None h =
        ap (λ b. some_if b (wrap z)) (sym (false_from_ne_true (fits z) (λ e. h (d.0 e))))
    checked-value Fits z d (Some a) h =
        ap Some (wraps a z (d.1 h.0) h.1) ∙ ap (λ b. some_if b (wrap z)) (sym (d.1 h.0))

    -- a quotient or a remainder, and none where the quotient does not fit
    module _ (Fits : ℤ → Type 0) (Nonzero : Type 0) (x y z : ℤ)
        (d : Decides (fits_integer signed w (int_div x y)) (Fits (int_div x y))) (nonzero : Nonzero ↔ (y ≢ pos 0)) where
      quotient : Decides (has_quotient fits x y) ((y ≢ pos 0) × Fits (int_div x y))
      quotient = Decides-and (not (int_eq y (pos 0))) (fits (int_div x y))
          (Decides-not (int_eq y (pos 0)) (Decides-int_eq y (pos 0))) d

      division-is : ((a : X) → Fits (int_div x y) → value a ≡ z → a ≡ wrap z) → (answer : Option X)
          → Divides value Fits Nonzero (int_div x y) z answer
          → answer ≡ some_if (has_quotient fits x y) (wrap z)
      division-is made None h = ap (λ b. some_if b (wrap z)) (sym (false_from_ne_true (has_quotient fits x y)
          (λ e.
          let p = quotient.0 e in
          elim h [ inl zero_divisor ↦ zero_divisor (nonzero.1 p.0) | inr unfit ↦ unfit p.1 ])))
      division-is made (Some a) h = ap Some (made a h.1 h.2)
          ∙ ap (λ b. some_if b (wrap z)) (sym (quotient.1 (nonzero.0 h.0, h.1)))

    module _ (Fits : ℤ → Type 0) (decides : (z : ℤ) → Decides (fits_integer signed w z) (Fits z))
        (Nonzero : ℤ → Type 0) (nonzero : (z : ℤ) → Fits z → Nonzero z ↔ (z ≢ pos 0)) (x y : ℤ)
        (inside : fits_integer signed w y ≡ true) (answer : Option X) where
      pub checked-quotient : Divides value Fits (Nonzero y) (int_div x y) (int_div x y) answer
          → answer ≡ some_if (has_quotient (fits_integer signed w) x y)
          (of_number (wrap_integer signed w (int_div x y)))
      checked-quotient h = division-is Fits (Nonzero y) x y (int_div x y) (decides (int_div x y))
          (nonzero y ((decides y).0 inside)) (λ a f e. wraps a (int_div x y) ((decides (int_div x y)).1 f) e) answer h

      pub checked-remainder : fits_integer signed w x ≡ true
          → Divides value Fits (Nonzero y) (int_div x y) (int_rem x y) answer
          → answer ≡ some_if (has_quotient (fits_integer signed w) x y)
          (of_number (wrap_integer signed w (int_rem x y)))
      checked-remainder own h = division-is Fits (Nonzero y) x y (int_rem x y) (decides (int_div x y))
          (nonzero y ((decides y).0 inside)) (λ a f e. wraps a (int_rem x y) (remainder-fits signed w x y own) e)
          answer h

    -- a quotient or a remainder that wraps
    module _ (x y : X) (left : fits_integer signed w (value x) ≡ true) (right : fits_integer signed w (value y) ≡ true)
        (some : value y ≢ pos 0) (result : X) (answer : Option X) where
      abbrev z : ℤ
      z = int_div (value x) (value y)

      unfit : has_quotient fits (value x) (value y) ≡ false → (wrap_integer signed w z ≡ value x)
          × (int_rem (value x) (value y) ≡ pos 0)
      unfit none = no-quotient signed w (value x) (value y) left right
          (has-no-quotient fits (value x) (value y) some none)

      pub wrapped-quotient : answer ≡ some_if (has_quotient (fits_integer signed w) (value x) (value y))
          (of_number (wrap_integer signed w (int_div (value x) (value y))))
          → result ≡ unwrap_or answer x
          → result ≡ of_number (wrap_integer signed w (int_div (value x) (value y)))
      wrapped-quotient is e = or-else (has_quotient fits (value x) (value y)) (wrap z) x result answer is e
          (λ none. value-of x (wrap_integer signed w z) (sym ((unfit none).0)))

      pub wrapped-remainder : (nought : X) → value nought ≡ pos 0
          → answer ≡ some_if (has_quotient (fits_integer signed w) (value x) (value y))
          (of_number (wrap_integer signed w (int_rem (value x) (value y))))
          → result ≡ unwrap_or answer nought
          → result ≡ of_number (wrap_integer signed w (int_rem (value x) (value y)))
      wrapped-remainder nought is_zero is e = or-else (has_quotient fits (value x) (value y))
          (wrap (int_rem (value x) (value y))) nought result answer is e
          (λ none. value-of nought (wrap_integer signed w (int_rem (value x) (value y))) (is_zero ∙ sym (
          wrap_integer_same signed w (int_rem (value x) (value y)) (remainder-fits signed w (value x) (value y) left)
          ∙ ((unfit none).1))))
