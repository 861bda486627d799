-- Numbers of any size in decimal, digit by digit.
use Rattle.std.proofs.Common.{◌≡◌, ℕ, zero, suc, ◌+◌, ◌/◌, ◌%◌, ◌<◌, ◌≤◌, ◌∙◌, ap, refl, sym, arith}
use Rattle.std.proofs.Common.{List, [], ◌∷◌, ◌++◌, map}
use Rattle.std.proofs.lemmas.Int.Digits.{digits_of_step}
use Rattle.std.proofs.lemmas.List.{map-append}
use Rattle.std.specs.Int.Digits.{digits_of}
use Rattle.arrow_types.specs.NativeText.{long_decimal}

glyphs : List ℕ → List ℕ
glyphs digits = map (λ d. 48 + d) digits

decimal-some : (n : ℕ) → 0 < n → long_decimal n ≡ glyphs (digits_of 10 n)
unfolding glyphs
decimal-some zero h = absurd (omega arith)
decimal-some (suc n) h = refl

-- the last digit comes after what the front writes
pub decimal-more : (n : ℕ) → 10 ≤ n → long_decimal n ≡ long_decimal (n / 10) ++ ((48 + n % 10) ∷ [])
unfolding glyphs
decimal-more n h =
    decimal-some n (omega arith) ∙ ap glyphs (digits_of_step 10 n (omega arith) (omega arith))
    ∙ map-append (λ d. 48 + d) (digits_of 10 (n / 10)) (n % 10 ∷ [])
    ∙ ap (λ front. front ++ ((48 + n % 10) ∷ [])) (sym (decimal-some (n / 10) (omega arith)))

-- a digit alone
pub decimal-one : (n : ℕ) → n < 10 → long_decimal n ≡ (48 + n % 10) ∷ []
unfolding glyphs
decimal-one zero h = refl
decimal-one (suc n) h =
    let none : suc n / 10 ≡ 0 = omega arith in
    ap glyphs (digits_of_step 10 (suc n) (omega arith) (omega arith))
    ∙ ap (λ front. glyphs (digits_of 10 front ++ (suc n % 10 ∷ []))) none
