-- Lemmas about numbers that texts write.
use Rattle.std.proofs.Common.{◌≡◌, ◌∙◌, ◌&&◌, ℕ, zero, suc, ◌+◌, ◌-◌, ◌^◌, ◌<◌, ◌≤◌, ℤ, pos, negsuc, ◌-ℤ◌, Bool, true, false, nat_lt, List, length, Option, Some, None, option_map, is_some, refl, ap, ap₂, sym, arith, FitsSigned, to_z, of_z}
use Rattle.std.specs.Int.{w128}
use Rattle.std.specs.Str.{all_ascii_digits}
use Rattle.std.specs.Str.Parse.{digits_value, starts_with_minus}
use Rattle.std.proofs.lemmas.Int.{to_z-of_z, to_z_pos}
use Rattle.std.proofs.lemmas.Bool.{le-ltb, lt-ltb, ltb-true, ltb-false}
use Rattle.arrow_integers.specs.NativeArithmetics.{fits_signed, some_if}
use Rattle.arrow_integers.specs.NativeNumbers.{signed_decides}
use Rattle.compute_cast.specs.Decimals.{digits_of_text, is_numeral, value_of_text, with_sign}
use Rattle.compute_cast.proofs.DigitLemmas.{none-parts, some-parts}

-- ---- a sign before a value

signed : Bool → ℕ → Option ℤ
signed is_negative value = some_if (fits_signed w128 (with_sign is_negative value)) (with_sign is_negative value)

pub positive-fits : (value : ℕ) → value < 2 ^ 127 → Some (pos value) ≡ some_if (fits_signed w128 (pos value)) (pos value)
unfolding fits_signed
positive-fits value small = ap (λ b. some_if b (pos value)) (sym (lt-ltb value (2 ^ 127) small))

pub small-number : (value : ℕ) → value < 2 ^ 127 → to_z w128 value ≡ pos value
small-number value small = to_z_pos w128 value small

pub positive-large : (value : ℕ) → 2 ^ 127 ≤ value → None ≡ some_if (fits_signed w128 (pos value)) (pos value)
unfolding fits_signed
positive-large value large = ap (λ b. some_if b (pos value)) (sym (le-ltb value (2 ^ 127) large))

pub not-negative : (is_negative : Bool) (value : ℕ) (result : Option ℤ) → is_negative ≡ false
    → result ≡ some_if (fits_signed w128 (pos value)) (pos value)
    → result ≡ some_if (fits_signed w128 (with_sign is_negative value)) (with_sign is_negative value)
not-negative is_negative value result is made = made ∙ sym (ap (λ b. some_if (fits_signed w128 (with_sign b value)) (with_sign b value)) is)

pub negative-zero : (is_negative : Bool) (value : ℕ) → is_negative ≡ true → value ≡ 0
    → Some (pos 0) ≡ some_if (fits_signed w128 (with_sign is_negative value)) (with_sign is_negative value)
unfolding fits_signed
negative-zero is_negative value is none = rw (is, none) refl

minus-one : (n : ℕ) → negsuc 0 -ℤ pos n ≡ negsuc n
minus-one zero = refl
minus-one (suc n) = let e : suc (0 + n) ≡ suc n = omega arith in ap negsuc e

below-minus-one : (n : ℕ) (below : ℤ) → below ≡ pos n → n < 2 ^ 127
    → to_z w128 (of_z w128 (negsuc 0 -ℤ to_z w128 (of_z w128 below))) ≡ negsuc n
below-minus-one n below is small =
    ap (λ z. to_z w128 (of_z w128 (negsuc 0 -ℤ z)))
    (ap (λ z. to_z w128 (of_z w128 z)) is ∙ to_z-of_z w128 (pos n) (record { sfits = small }))
    ∙ ap (λ z. to_z w128 (of_z w128 z)) (minus-one n) ∙ to_z-of_z w128 (negsuc n) (record { sfits = small })

pub negative-some : (is_negative : Bool) (value : ℕ) (below : ℤ) → is_negative ≡ true → 0 < value
    → Some below ≡ some_if (fits_signed w128 (pos (value - 1))) (pos (value - 1))
    → Some (to_z w128 (of_z w128 (negsuc 0 -ℤ to_z w128 (of_z w128 below))))
    ≡ some_if (fits_signed w128 (with_sign is_negative value)) (with_sign is_negative value)
unfolding fits_signed
negative-some is_negative zero below is some made = absurd (omega arith)
negative-some is_negative (suc m) below is some made =
    let e : suc m - 1 ≡ m = omega arith in
    let parts = some-parts (nat_lt (suc m - 1) (2 ^ 127)) below (pos (suc m - 1)) made in
    let fits = ap (λ n. nat_lt n (2 ^ 127)) (sym e) ∙ parts.0 in
    ap Some (below-minus-one m below (parts.1 ∙ ap pos e) (ltb-true m (2 ^ 127) fits))
    ∙ ap (λ b. some_if b (negsuc m)) (sym fits)
    ∙ sym (ap (λ b. some_if (fits_signed w128 (with_sign b (suc m))) (with_sign b (suc m))) is)

pub negative-none : (is_negative : Bool) (value : ℕ) → is_negative ≡ true → 0 < value
    → None ≡ some_if (fits_signed w128 (pos (value - 1))) (pos (value - 1))
    → None ≡ some_if (fits_signed w128 (with_sign is_negative value)) (with_sign is_negative value)
unfolding fits_signed
negative-none is_negative zero is some made = absurd (omega arith)
negative-none is_negative (suc m) is some made =
    let e : suc m - 1 ≡ m = omega arith in
    ap (λ b. some_if b (negsuc m)) (sym (none-parts (nat_lt (suc m - 1) (2 ^ 127)) (pos (suc m - 1)) made) ∙ ap (λ n. nat_lt n (2 ^ 127)) e)
    ∙ sym (ap (λ b. some_if (fits_signed w128 (with_sign b (suc m))) (with_sign b (suc m))) is)

-- ---- a text

pub is-signed : {X : Type 0} (b is_signed : Bool) (x : X) (made : Option X) → made ≡ some_if b x → is_signed ≡ is_some made
    → is_signed ≡ b
is-signed true is_signed x made e f = f ∙ ap is_some e
is-signed false is_signed x made e f = f ∙ ap is_some e

module _ {X : Type 0} (fits : ℤ → Bool) (wrap : ℤ → X) where
  -- the value that a sign and digits are
  abbrev pub written : Bool → List ℕ → Option X
  written is_negative digits = let number = with_sign is_negative (digits_value 10 digits) in
      option_map wrap (some_if (is_numeral digits && fits number) number)

  pub same-text : (is_signed is_negative : Bool) (digits text : List ℕ) → is_signed ≡ fits (negsuc 0)
      → is_negative ≡ (is_signed && starts_with_minus text) → digits ≡ digits_of_text is_signed text
      → written is_negative digits ≡ value_of_text fits wrap text
  same-text is_signed is_negative digits text signs minus rest =
      ap₂ written minus rest ∙ ap (λ b. written (b && starts_with_minus text) (digits_of_text b text)) signs

  nothing : (b : Bool) (number : ℤ) → b ≡ false → None ≡ option_map wrap (some_if b number)
  nothing b number fails = ap (λ c. option_map wrap (some_if c number)) (sym fails)

  and-fails : (b c : Bool) → (b ≡ true → c ≡ false) → (b && c) ≡ false
  and-fails true c fails = fails refl
  and-fails false c fails = refl

  pub no-digits : (is_negative : Bool) (digits : List ℕ) → length digits ≡ 0 → None ≡ written is_negative digits
  no-digits is_negative digits none = let number = with_sign is_negative (digits_value 10 digits) in
      nothing (is_numeral digits && fits number) number
      (ap (λ n. (nat_lt 0 n && all_ascii_digits digits) && fits number) none)

  module _ (within : (z : ℤ) → fits z ≡ true → FitsSigned w128 z) where
    unfit : (b : Bool) (z : ℤ) → fits z ≡ b → fits_signed w128 z ≡ false → b ≡ false
    unfit false z is other = refl
    unfit true z is other = absurd (let e = (signed_decides w128 z).1 (within z is) in cc)

    -- a number that is no signed number of 128 bits
    pub no-number : (is_negative : Bool) (digits : List ℕ)
        → fits_signed w128 (with_sign is_negative (digits_value 10 digits)) ≡ false → None ≡ written is_negative digits
    no-number is_negative digits other = let number = with_sign is_negative (digits_value 10 digits) in
        nothing (is_numeral digits && fits number) number
        (and-fails (is_numeral digits) (fits number) (λ _. unfit (fits number) number refl other))

    large : (is_negative : Bool) (n : ℕ) → 2 ^ 128 ≤ n → fits_signed w128 (with_sign is_negative n) ≡ false
    unfolding fits_signed
    large false n past = le-ltb n (2 ^ 127) (omega arith)
    large true zero past = absurd (omega arith)
    large true (suc m) past = le-ltb m (2 ^ 127) (omega arith)

    numeral-fails : (digits : List ℕ) → all_ascii_digits digits ≡ false → is_numeral digits ≡ false
    numeral-fails digits other = and-fails (nat_lt 0 (length digits)) (all_ascii_digits digits) (λ _. other)

    -- digits that have no value of 128 bits, or are none
    pub no-value : (is_negative : Bool) (digits : List ℕ) (b : Bool) → all_ascii_digits digits ≡ b
        → (b && nat_lt (digits_value 10 digits) (2 ^ 128)) ≡ false → None ≡ written is_negative digits
    no-value is_negative digits false other fails = let number = with_sign is_negative (digits_value 10 digits) in
        nothing (is_numeral digits && fits number) number
        (ap (λ b. b && fits number) (numeral-fails digits other))
    no-value is_negative digits true all fails =
        no-number is_negative digits (large is_negative (digits_value 10 digits) (ltb-false (digits_value 10 digits) (2 ^ 128) fails))

  finish : (b : Bool) (number : ℤ) → some_if b (wrap number) ≡ option_map wrap (some_if b number)
  finish true number = refl
  finish false number = refl

  -- the value of a number
  pub has-number : (is_negative : Bool) (digits : List ℕ) (number : ℤ) → 0 < length digits
      → all_ascii_digits digits ≡ true → number ≡ with_sign is_negative (digits_value 10 digits)
      → some_if (fits number) (wrap number) ≡ written is_negative digits
  has-number is_negative digits number some all is =
      ap (λ z. some_if (fits z) (wrap z)) is
      ∙ finish (fits (with_sign is_negative (digits_value 10 digits))) (with_sign is_negative (digits_value 10 digits))
      ∙ ap (λ b. option_map wrap (some_if (b && fits (with_sign is_negative (digits_value 10 digits))) (with_sign is_negative (digits_value 10 digits))))
      (sym (ap₂ (λ b c. b && c) (lt-ltb 0 (length digits) some) all))
