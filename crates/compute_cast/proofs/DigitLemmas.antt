-- Lemmas about decimal digits that are read from the first to the last.
use Rattle.std.proofs.Common.{◌≡◌, ◌∙◌, ◌&&◌, ℕ, suc, ◌+◌, ◌-◌, ◌*◌, ◌^◌, ◌<◌, ◌≤◌, Bool, true, false, nat_lt, List}
use Rattle.std.proofs.Common.{◌∷◌, length, get_or, drop, Some, None, refl, ap, ap₂, sym, subst, arith}
use Rattle.std.proofs.Math.Seq.{drop-cons}
use Rattle.std.proofs.Math.Nat.{pow-le-pow_right}
use Rattle.std.proofs.lemmas.Bool.{and_right, le-ltb, lt-ltb}
use Rattle.std.proofs.lemmas.List.{drop_all}
use Rattle.std.proofs.lemmas.Str.{digit_value_digit}
use Rattle.std.proofs.lemmas.Str.Parse.{digit_from_value}
use Rattle.std.specs.Char.{digit_value, is_ascii_digit}
use Rattle.std.specs.Str.{all_ascii_digits}
use Rattle.std.specs.Str.Parse.{digits_value, digits_value_after}
use Rattle.arrow_types.proofs.CallerLemmas.{value-ge}
use Rattle.arrow_integers.specs.NativeArithmetics.{some_if}

-- the digits before index i have been read, and their value is this
pub record HasRead (all : List ℕ) (i read : ℕ) : Type 0 where
  pub value : digits_value_after 10 read (drop i all) ≡ digits_value 10 all
  pub digits : all_ascii_digits (drop i all) ≡ all_ascii_digits all

pub none-read : (digits : List ℕ) → HasRead digits 0 0
none-read digits = record { value = refl; digits = refl }

module _ (digits : List ℕ) (i value byte : ℕ) (read : HasRead digits i value) (low : i < length digits)
    (is : byte ≡ get_or digits i 0) where
  next : drop i digits ≡ byte ∷ drop (suc i) digits
  next = drop-cons digits i 0 low ∙ ap (λ b. b ∷ drop (suc i) digits) (sym is)

  -- one more digit is read
  pub more-read : is_ascii_digit byte ≡ true → digit_value byte < 10 → HasRead digits (i + 1) (value * 10 + (byte - 48))
  more-read digit bound =
      let same : digit_value byte ≡ byte - 48 = omega (arith, digit_value_digit byte (digit_from_value byte bound)) in
      let at : i + 1 ≡ suc i = omega arith in
      subst (λ j. HasRead digits j (value * 10 + (byte - 48))) (sym at) (record {
        value = ap (λ d. digits_value_after 10 (value * 10 + d) (drop (suc i) digits)) (sym same)
            ∙ sym (ap (digits_value_after 10 value) next) ∙ read.value;
        digits = ap (λ b. b && all_ascii_digits (drop (suc i) digits)) (sym digit)
            ∙ sym (ap all_ascii_digits next) ∙ read.digits;
      })

  -- a byte that is no digit
  pub not-digits : is_ascii_digit byte ≡ false → all_ascii_digits digits ≡ false
  not-digits other = sym read.digits ∙ ap all_ascii_digits next
      ∙ ap (λ b. b && all_ascii_digits (drop (suc i) digits)) other

-- all digits are read
pub all-read : (digits : List ℕ) (i value : ℕ) → HasRead digits i value → length digits ≤ i
    → (all_ascii_digits digits ≡ true) × (value ≡ digits_value 10 digits)
all-read digits i value read past = let none = drop_all i digits past in (
  sym read.digits ∙ ap all_ascii_digits none,
  sym (ap (digits_value_after 10 value) none) ∙ read.value,
)

-- the value of the digits that have been read is no greater than that of all
pub read-below : (digits : List ℕ) (i value : ℕ) → HasRead digits i value → value ≤ digits_value 10 digits
read-below digits i value read = omega (arith, value-ge value (drop i digits), read.value)

-- fewer than nineteen digits have a value to which one more can be appended
pub room-for-one : (i value : ℕ) → value < 10 ^ i → i < 19 → value < 10 ^ 18
room-for-one i value below low = omega (arith, below, pow-le-pow_right {n = 10} (omega arith) {i = i} {j = 18} (omega arith))

pub below-next : (i value digit : ℕ) → value < 10 ^ i → digit < 10 → value * 10 + digit < 10 ^ (i + 1)
below-next i value digit below small =
    let at : i + 1 ≡ suc i = omega arith in
    subst (λ j. value * 10 + digit < 10 ^ j) (sym at) (omega arith)

-- ---- what is returned
pub value-of : (b : Bool) (value x : ℕ) → (b ≡ true) × (value ≡ x) → Some value ≡ some_if b x
value-of b value x (holds, is) = ap Some is ∙ ap (λ c. some_if c x) (sym holds)

pub none-of : (b : Bool) (x : ℕ) → b ≡ false → None ≡ some_if b x
none-of b x fails = ap (λ c. some_if c x) (sym fails)

pub fits-in : (b : Bool) (value x most : ℕ) → (b ≡ true) × (value ≡ x) → value < most
    → Some value ≡ some_if (b && nat_lt x most) x
fits-in b value x most (holds, is) small =
    value-of (b && nat_lt x most) value x (ap₂ (λ c d. c && d) holds (lt-ltb x most (omega (arith, is, small))), is)

pub none-and : (b c : Bool) (x : ℕ) → b ≡ false → None ≡ some_if (b && c) x
none-and b c x fails = none-of (b && c) x (ap (λ d. d && c) fails)

pub too-large : (b : Bool) (x most : ℕ) → most ≤ x → None ≡ some_if (b && nat_lt x most) x
too-large b x most large =
    none-of (b && nat_lt x most) x (ap (λ d. b && d) (le-ltb x most large) ∙ and_right b false refl)

pub some-parts : {X : Type 0} (b : Bool) (value x : X) → Some value ≡ some_if b x → (b ≡ true) × (value ≡ x)
some-parts true value x is = (refl, let e : value ≡ x = cc in e)
some-parts false value x is = absurd cc

pub none-parts : {X : Type 0} (b : Bool) (x : X) → None ≡ some_if b x → b ≡ false
none-parts true x is = absurd cc
none-parts false x is = refl

-- the digits write more than fits in 128 bits
pub overflows : (digits : List ℕ) (i value byte : ℕ) → HasRead digits i value → i < length digits → byte ≡ get_or digits i 0
    → is_ascii_digit byte ≡ true → digit_value byte < 10 → 2 ^ 128 ≤ value * 10 + (byte - 48)
    → None ≡ some_if (all_ascii_digits digits && nat_lt (digits_value 10 digits) (2 ^ 128)) (digits_value 10 digits)
overflows digits i value byte read low is digit bound large =
    let more = more-read digits i value byte read low is digit bound in
    too-large (all_ascii_digits digits) (digits_value 10 digits) (2 ^ 128)
    (omega (arith, large, read-below digits (i + 1) (value * 10 + (byte - 48)) more))

-- all digits are read, and their value fits in 128 bits
pub reads-long : (digits : List ℕ) (i value : ℕ) → HasRead digits i value → length digits ≤ i → value < 2 ^ 128
    → Some value ≡ some_if (all_ascii_digits digits && nat_lt (digits_value 10 digits) (2 ^ 128)) (digits_value 10 digits)
reads-long digits i value read past small =
    fits-in (all_ascii_digits digits) value (digits_value 10 digits) (2 ^ 128) (all-read digits i value read past) small

pub at-least : (a b : ℕ) → ¬ (a < b) → b ≤ a
at-least a b high = omega (arith, high)
