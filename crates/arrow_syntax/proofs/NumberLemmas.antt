-- Lemmas on the numbers that words write.
use Rattle.std.proofs.Common.{◌≡◌, ℕ, ◌+◌, ◌*◌, ◌^◌, ◌<◌, Bool, true, false, cond, nat_lt, List, [], ◌∷◌}
use Rattle.std.proofs.Common.{length, refl, sym, ap, arith, Option, Some, None}
use Rattle.std.specs.Prelude.{◌&&◌, option_and_then}
use Rattle.std.specs.List.{list_all}
use Rattle.std.specs.Char.{digit_value}
use Rattle.std.specs.Str.Parse.{digits_value_after}
use Rattle.std.proofs.lemmas.Bool.{ltb-true, ltb-false, lt-ltb, le-ltb, and_right}
use Rattle.arrow_types.proofs.CallerLemmas.{value-ge}
use Rattle.arrow_syntax.specs.Words.{parse_usize, with_digit, is_digit}

-- the number of more digits behind those of a number
abbrev pub number_after : ℕ → List ℕ → Option ℕ
number_after n [] = Some n
number_after n (b ∷ bs) = option_and_then (λ m. number_after m bs) (with_digit n b)

-- the number of bytes that are all digits, if it fits
abbrev whole : ℕ → List ℕ → Option ℕ
whole n bs = cond (list_all is_digit bs
    && nat_lt (digits_value_after 10 n bs) (2 ^ 64)) (Some (digits_value_after 10 n bs)) None

number_after-cons : (n b : ℕ) (bs : List ℕ) (digit fits : Bool) → is_digit b ≡ digit
    → nat_lt (n * 10 + digit_value b) (2 ^ 64) ≡ fits
    → (n * 10 + digit_value b < 2 ^ 64 → number_after (n * 10 + digit_value b) bs ≡ whole (n * 10 + digit_value b) bs)
    → number_after n (b ∷ bs) ≡ whole n (b ∷ bs)
number_after-cons n b bs false fits d f rest = rw d refl
number_after-cons n b bs true true d f rest = rw (d, f) (rest (ltb-true _ _ f))
number_after-cons n b bs true false d f rest =
    let above = ltb-false _ _ f in
    let past = le-ltb (digits_value_after 10 (n * 10 + digit_value b) bs) (2 ^ 64)
    (omega (arith, value-ge (n * 10 + digit_value b) bs)) in
    rw (d, f, past, and_right (list_all is_digit bs) false refl) refl

pub number_after_is : (n : ℕ) (bs : List ℕ) → n < 2 ^ 64 → number_after n bs ≡ whole n bs
number_after_is n [] h = rw (lt-ltb n (2 ^ 64) h) refl
number_after_is n (b ∷ bs) h = number_after-cons n b bs _ _ refl refl (number_after_is (n * 10 + digit_value b) bs)

pub parse_usize_is : (word : List ℕ) → 0 < length word → parse_usize word ≡ number_after 0 word
unfolding parse_usize
parse_usize_is word h = rw (lt-ltb 0 (length word) h) (sym (number_after_is 0 word (omega arith)))

pub parse_usize_empty : (word : List ℕ) → length word ≡ 0 → parse_usize word ≡ None
unfolding parse_usize
parse_usize_empty word h = rw h refl

-- a byte that is no digit, or a digit too many, makes no number
pub number_after_stops : (n b : ℕ) (bs : List ℕ) → with_digit n b ≡ None → number_after n (b ∷ bs) ≡ None
number_after_stops n b bs e = ap (option_and_then (λ m. number_after m bs)) e
