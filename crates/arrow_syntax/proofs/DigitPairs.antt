-- Lemmas on the bytes that pairs of hexadecimal digits write, and on texts of them.
use Rattle.std.proofs.Common.{◌≡◌, ℕ, zero, suc, ◌+◌, ◌*◌, ◌%◌, ◌≤◌, Bool, List, [], ◌∷◌, ◌++◌, length, take}
use Rattle.std.proofs.Common.{drop, refl, sym, ap, ◌∙◌, arith, Option, Some, None, Result, Ok, Err, is_some}
use Rattle.std.specs.Prelude.{◌&&◌, option_map, unwrap_or}
use Rattle.std.specs.List.{list_all}
use Rattle.std.specs.Result.{result_ok}
use Rattle.hex.specs.Hex.{decode_pairs, digit_or_error, hex_digit_value, is_hex_digit, ◌>>=◌}
use Rattle.hex.specs.declared.error.FromHexError.{FromHexError}
use Rattle.hex.proofs.HexLemmas.{decode_of-even, decode_of-odd}
use Rattle.arrow_syntax.specs.Fields.{hex_bytes}

-- the byte of two digits, before others
abbrev pub joined_pair : Option ℕ → Option ℕ → Option (List ℕ) → Option (List ℕ)
joined_pair None low others = None
joined_pair (Some a) None others = None
joined_pair (Some a) (Some b) others = option_map (λ bytes. (a * 16 + b) ∷ bytes) others

-- the bytes of pairs of digits
abbrev pub pairs : List ℕ → Option (List ℕ)
pairs [] = Some []
pairs (x ∷ []) = None
pairs (x ∷ y ∷ rest) = joined_pair (hex_digit_value x) (hex_digit_value y) (pairs rest)

decoded_pair : (i x y : ℕ) (high low : Option ℕ) (rest : Result (List ℕ) FromHexError) (others : Option (List ℕ))
    → result_ok rest ≡ others
    → result_ok ((digit_or_error x i high >>= (λ a. digit_or_error y (i + 1) low >>= (λ b. Ok (a * 16 + b))))
    >>= (λ byte. rest >>= (λ bytes. Ok (byte ∷ bytes))))
    ≡ joined_pair high low others
decoded_pair i x y None low rest others e = refl
decoded_pair i x y (Some a) None rest others e = refl
decoded_pair i x y (Some a) (Some b) (Ok bytes) others e = ap (option_map (λ all. (a * 16 + b) ∷ all)) e
decoded_pair i x y (Some a) (Some b) (Err error) others e = ap (option_map (λ all. (a * 16 + b) ∷ all)) e

decoded_pairs : (i : ℕ) (digits : List ℕ) → result_ok (decode_pairs i digits) ≡ pairs digits
unfolding decode_pairs
decoded_pairs i [] = refl
decoded_pairs i (x ∷ []) = refl
decoded_pairs i (x ∷ y
    ∷ rest) = decoded_pair i x y (hex_digit_value x) (hex_digit_value y) (decode_pairs (i + 2) rest) (pairs rest)
    (decoded_pairs (i + 2) rest)

no_others : (high low : Option ℕ) (others : Option (List ℕ)) → others ≡ None → joined_pair high low others ≡ None
no_others None low others e = refl
no_others (Some a) None others e = refl
no_others (Some a) (Some b) others e = ap (option_map (λ all. (a * 16 + b) ∷ all)) e

odd_pairs : (digits : List ℕ) → length digits % 2 ≡ 1 → pairs digits ≡ None
odd_pairs [] odd = absurd (omega arith)
odd_pairs (x ∷ []) odd = refl
odd_pairs (x ∷ y ∷ rest) odd = no_others (hex_digit_value x) (hex_digit_value y) (pairs rest)
    (odd_pairs rest (omega arith))

-- decoding digits is decoding their pairs
pub bytes_are_pairs : (digits : List ℕ) → hex_bytes digits ≡ pairs digits
bytes_are_pairs digits = by_rest (length digits % 2) refl
  where
    by_rest : (n : ℕ) → length digits % 2 ≡ n → hex_bytes digits ≡ pairs digits
    by_rest zero e = ap result_ok (decode_of-even digits e) ∙ decoded_pairs 0 digits
    by_rest (suc zero) e = ap result_ok (decode_of-odd digits e) ∙ sym (odd_pairs digits e)
    by_rest (suc (suc n)) e = absurd (omega arith)

tested_pair : (high low : Option ℕ) (others : Option (List ℕ)) (passes : Bool) → is_some others ≡ passes
    → is_some (joined_pair high low others) ≡ (is_some high && (is_some low && passes))
tested_pair None low others passes e = refl
tested_pair (Some a) None others passes e = refl
tested_pair (Some a) (Some b) None passes e = e
tested_pair (Some a) (Some b) (Some bytes) passes e = e

-- an even number of hexadecimal digits has bytes
pub pairs_tested : (digits : List ℕ) → length digits % 2 ≡ 0 → is_some (pairs digits) ≡ list_all is_hex_digit digits
pairs_tested [] even = refl
pairs_tested (x ∷ []) even = absurd (omega arith)
pairs_tested (x ∷ y ∷ rest) even =
    tested_pair (hex_digit_value x) (hex_digit_value y) (pairs rest) (list_all is_hex_digit rest)
    (pairs_tested rest (omega arith))

-- twice a number, by steps of two
abbrev pub twice : ℕ → ℕ
twice zero = 0
twice (suc n) = suc (suc (twice n))

pub twice_is : (n : ℕ) → twice n ≡ 2 * n
twice_is zero = refl
twice_is (suc n) = let e = twice_is n in omega (arith, e)

-- the two digits of a first byte
opened_pair : (high low : Option ℕ) (others : Option (List ℕ)) (bytes : List ℕ)
    → joined_pair high low others ≡ Some bytes
    → (a b : ℕ) × (rest : List ℕ) × (high ≡ Some a) × (low ≡ Some b) × (others ≡ Some rest)
    × ((a * 16 + b) ∷ rest ≡ bytes)
opened_pair None low others bytes e = absurd (cc e)
opened_pair (Some a) None others bytes e = absurd (cc e)
opened_pair (Some a) (Some b) None bytes e = absurd (cc e)
opened_pair (Some a) (Some b) (Some rest) bytes e = (a, b, rest, refl, refl, refl, ap (λ o. unwrap_or o []) e)

same_option : (o : Option (List ℕ)) → o ≡ option_map (λ bytes. bytes) o
same_option None = refl
same_option (Some bytes) = refl

mapped_twice : (x : ℕ) (front : List ℕ) (o : Option (List ℕ))
    → option_map (λ bytes. x ∷ bytes) (option_map (λ bytes. front ++ bytes) o)
    ≡ option_map (λ bytes. x ∷ front ++ bytes) o
mapped_twice x front None = refl
mapped_twice x front (Some bytes) = refl

joined_of : (high low : Option ℕ) (others : Option (List ℕ)) (a b : ℕ) → high ≡ Some a → low ≡ Some b
    → joined_pair high low others ≡ option_map (λ all. (a * 16 + b) ∷ all) others
joined_of high low others a b e f = rw (e, f) refl

-- digits whose first pairs have these bytes: some of these bytes, and those of the digits behind them
pub pairs_front : (some n : ℕ) (digits bytes : List ℕ) → some ≤ n → twice n ≤ length digits
    → pairs (take (twice n) digits) ≡ Some bytes
    → pairs digits ≡ option_map (λ rest. take some bytes ++ rest) (pairs (drop (twice some) digits))
pairs_front zero n digits bytes within long e = same_option (pairs digits)
pairs_front (suc some) zero digits bytes within long e = absurd (omega arith)
pairs_front (suc some) (suc n) [] bytes within long e = absurd (omega arith)
pairs_front (suc some) (suc n) (x ∷ []) bytes within long e = absurd (omega arith)
pairs_front (suc some) (suc n) (x ∷ y ∷ rest) bytes within long e =
    let parts = opened_pair (hex_digit_value x) (hex_digit_value y) (pairs (take (twice n) rest)) bytes e in
    let others = pairs_front some n rest parts.2 (omega arith) (omega arith) parts.5 in
    let x_of = parts.0 * 16 + parts.1 in
    let behind = pairs (drop (twice some) rest) in
    let front : x_of ∷ take some parts.2 ≡ take (suc some) bytes = ap (take (suc some)) parts.6 in
    joined_of (hex_digit_value x) (hex_digit_value y) (pairs rest) parts.0 parts.1 parts.3 parts.4
    ∙ ap (option_map (λ all. x_of ∷ all)) others
    ∙ mapped_twice x_of (take some parts.2) behind
    ∙ ap (λ (before : List ℕ). option_map (λ all. before ++ all) behind) front

broken_pair : (high low : Option ℕ) (front others : Option (List ℕ)) → (front ≡ None → others ≡ None)
    → joined_pair high low front ≡ None → joined_pair high low others ≡ None
broken_pair None low front others none e = refl
broken_pair (Some a) None front others none e = refl
broken_pair (Some a) (Some b) None others none e = no_others (Some a) (Some b) others (none refl)
broken_pair (Some a) (Some b) (Some bytes) others none e = absurd (cc e)

-- digits whose first pairs have no bytes
pub pairs_broken : (n : ℕ) (digits : List ℕ) → twice n ≤ length digits → pairs (take (twice n) digits) ≡ None
    → pairs digits ≡ None
pairs_broken zero digits long e = absurd (cc e)
pairs_broken (suc n) [] long e = absurd (omega arith)
pairs_broken (suc n) (x ∷ []) long e = absurd (omega arith)
pairs_broken (suc n) (x ∷ y ∷ rest) long e =
    broken_pair (hex_digit_value x) (hex_digit_value y) (pairs (take (twice n) rest)) (pairs rest)
    (pairs_broken n rest (omega arith)) e

-- a byte takes two digits
pub pairs_length : (digits bytes : List ℕ) → pairs digits ≡ Some bytes → length digits ≡ 2 * length bytes
pairs_length [] bytes e = let same : [] ≡ bytes = ap (λ o. unwrap_or o []) e in rw (← same) refl
pairs_length (x ∷ []) bytes e = absurd (cc e)
pairs_length (x ∷ y ∷ rest) bytes e =
    let parts = opened_pair (hex_digit_value x) (hex_digit_value y) (pairs rest) bytes e in
    let others = pairs_length rest parts.2 parts.5 in
    rw (← parts.6) (omega (arith, others))
