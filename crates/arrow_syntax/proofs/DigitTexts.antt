-- Lemmas on texts whose bytes hexadecimal digits write.
use Rattle.std.proofs.Common.{◌≡◌, ℕ, ◌+◌, ◌*◌, ◌<◌, ◌≤◌, Bool, true, false, cond, List, [], ◌∷◌, ◌++◌, length}
use Rattle.std.proofs.Common.{take, drop, refl, sym, ap, subst, ◌∙◌, arith, Option, Some, None, is_some, IsUtf8}
use Rattle.std.proofs.Common.{inl, inr, encode_utf8, encode_utf8_all, length-append, length-drop}
use Rattle.std.proofs.lemmas.List.{length-take-le, take_all, take-append-le}
use Rattle.std.proofs.Math.Seq.{drop-append_seam}
use Rattle.std.specs.Prelude.{option_map, option_and_then, unwrap_or}
use Rattle.std.specs.Str.{is_utf8, IsValidUpTo}
use Rattle.std.proofs.lemmas.Bool.{and_parts, cases_lt}
use Rattle.std.proofs.lemmas.Str.{IsUtf8-append, IsUtf8-nil, IsUtf8-drop, IsUtf8-encode, IsUtf8-from_is_utf8}
use Rattle.std.proofs.lemmas.Str.{is_utf8-from_IsUtf8, IsCharBoundary-from_take, length-encode, len_utf8_bounds}
use Rattle.arrow_syntax.specs.Fields.{hex_bytes, hex_text}
use Rattle.arrow_syntax.proofs.DigitPairs.{pairs, pairs_front, pairs_broken, pairs_length, bytes_are_pairs}
use Rattle.arrow_syntax.proofs.DigitPairs.{twice, twice_is}

-- bytes as a text
abbrev as_text : List ℕ → Option (List ℕ)
as_text bytes = cond (is_utf8 bytes) (Some bytes) None

text_is : (digits : List ℕ) → hex_text digits ≡ option_and_then as_text (pairs digits)
text_is digits = ap (option_and_then as_text) (bytes_are_pairs digits)

is_some_text : (bytes : List ℕ) → is_some (as_text bytes) ≡ is_utf8 bytes
is_some_text bytes = by_test (is_utf8 bytes)
  where
    by_test : (b : Bool) → is_some (cond {A = Option (List ℕ)} b (Some bytes) None) ≡ b
    by_test true = refl
    by_test false = refl

-- behind a text
utf8_behind : (front rest : List ℕ) → IsUtf8 front → is_utf8 (front ++ rest) ≡ is_utf8 rest
utf8_behind front rest text = by_tests (is_utf8 (front ++ rest)) (is_utf8 rest) refl refl
  where
    front_is : take (length front) (front ++ rest) ≡ front
    front_is = take-append-le (length front) front rest (omega arith) ∙ take_all (length front) front (omega arith)

    rest_is : drop (length front) (front ++ rest) ≡ rest
    rest_is = drop-append_seam front rest

    by_tests : (all behind : Bool) → is_utf8 (front ++ rest) ≡ all → is_utf8 rest ≡ behind → all ≡ behind
    by_tests true true e f = refl
    by_tests false false e f = refl
    by_tests false true e f = sym e
        ∙ is_utf8-from_IsUtf8 (front ++ rest) (IsUtf8-append front rest text (IsUtf8-from_is_utf8 rest f))
    by_tests true false e f =
        let whole = IsUtf8-from_is_utf8 (front ++ rest) e in
        let cut = IsCharBoundary-from_take (front
        ++ rest) (length front) whole (omega (arith, length-append front rest)) (subst IsUtf8 (sym front_is) text)
        in
        sym (is_utf8-from_IsUtf8 rest (subst IsUtf8 rest_is (IsUtf8-drop (front ++ rest) (length front) whole cut))) ∙ f

-- the number of bytes of pairs of digits
bytes_count : (n : ℕ) (digits bytes : List ℕ) → 2 * n ≤ length digits → hex_bytes (take (2 * n) digits) ≡ Some bytes
    → length bytes ≡ n
bytes_count n digits bytes long e =
    let two = pairs_length (take (2 * n) digits) bytes (sym (bytes_are_pairs (take (2 * n) digits)) ∙ e) in
    omega (arith, two, length-take-le (2 * n) digits long)

-- digits whose first pairs are a text: all are a text if the others are
pub text_behind : (some n : ℕ) (digits bytes : List ℕ) → some ≤ n → 2 * n ≤ length digits
    → hex_bytes (take (2 * n) digits) ≡ Some bytes → IsUtf8 (take some bytes)
    → is_some (hex_text digits) ≡ is_some (hex_text (drop (2 * some) digits))
text_behind some n digits bytes within long e text =
    let here = rw (← twice_is n) at (sym (bytes_are_pairs (take (2 * n) digits)) ∙ e) in
    let all = pairs_front some n digits bytes within (omega (arith, twice_is n)) here in
    ap is_some (text_is digits ∙ ap (option_and_then as_text) all) ∙ by_rest (pairs (drop (twice some) digits))
    ∙ ap is_some (sym (text_is (drop (twice some) digits)))
    ∙ ap (λ k. is_some (hex_text (drop k digits))) (twice_is some)
  where
    by_rest : (rest : Option (List ℕ))
        → is_some (option_and_then as_text (option_map (λ behind. take some bytes ++ behind) rest))
        ≡ is_some (option_and_then as_text rest)
    by_rest None = refl
    by_rest (Some behind) = is_some_text (take some bytes ++ behind) ∙ utf8_behind (take some bytes) behind text
        ∙ sym (is_some_text behind)

-- digits whose first pairs have no bytes
pub text_broken : (n : ℕ) (digits : List ℕ) → 2 * n ≤ length digits → hex_bytes (take (2 * n) digits) ≡ None
    → hex_text digits ≡ None
text_broken n digits long e =
    let here = rw (← twice_is n) at (sym (bytes_are_pairs (take (2 * n) digits)) ∙ e) in
    text_is digits ∙ ap (option_and_then as_text) (pairs_broken n digits (omega (arith, twice_is n)) here)

-- equal texts have equal first bytes
front_of : (m : ℕ) (xs ys us vs : List ℕ) → m ≤ length xs → m ≡ length us → xs ++ ys ≡ us ++ vs → take m xs ≡ us
front_of m xs ys us vs within is same =
    let left : take m (xs ++ ys) ≡ take m xs = take-append-le m xs ys within in
    let right : take m (us ++ vs) ≡ us = take-append-le m us vs (omega arith) ∙ take_all m us (omega arith) in
    sym left ∙ ap (take m) same ∙ right

-- digits whose first pairs begin with no character, if they are enough for one or are all
pub text_begins : (n : ℕ) (digits bytes : List ℕ) → 2 * n ≤ length digits → hex_bytes (take (2 * n) digits) ≡ Some bytes
    → (n < 4 → length digits < 2 * n + 2) → (0 < length bytes → IsValidUpTo bytes 0) → 0 < length digits
    → hex_text digits ≡ None
text_begins n digits bytes long e enough none some = text_is digits ∙ by_all (pairs digits) refl
  where
    here : pairs (take (2 * n) digits) ≡ Some bytes
    here = sym (bytes_are_pairs (take (2 * n) digits)) ∙ e

    count : length bytes ≡ n
    count = bytes_count n digits bytes long e

    starts : (all : List ℕ) → pairs digits ≡ Some all
        → (rest : List ℕ) × (all ≡ bytes ++ rest) × (n < 4 → length rest ≡ 0)
    starts all is = by_rest (pairs (drop (twice n) digits)) refl
        (pairs_front n n digits bytes (omega arith) (omega (arith, twice_is n)) (rw (twice_is n) here))
      where
        whole : take n bytes ≡ bytes
        whole = take_all n bytes (omega (arith, count))

        by_rest : (behind : Option (List ℕ)) → pairs (drop (twice n) digits) ≡ behind
            → pairs digits ≡ option_map (λ rest. take n bytes ++ rest) behind
            → (rest : List ℕ) × (all ≡ bytes ++ rest) × (n < 4 → length rest ≡ 0)
        by_rest None e f = absurd (cc (is, f))
        by_rest (Some rest) e f =
            let same : take n bytes ++ rest ≡ all = ap (λ o. unwrap_or o []) (sym f ∙ is) in
            let two = pairs_length (drop (twice n) digits) rest e in (
              rest,
              sym same ∙ ap (λ front. front
                  ++ rest) whole,
              λ few. omega (arith, two, enough few, twice_is n, length-drop (twice n) digits),
            )

    no_text : (all : List ℕ) → pairs digits ≡ Some all → ¬ (IsUtf8 all)
    no_text all is ([], (scalars, same)) =
        let parts = starts all is in
        let two = pairs_length digits all is in
        let empty : length all ≡ 0 = ap length (sym same) in
        omega (arith, two, empty)
    no_text all is (c ∷ cs, (scalars, same)) =
        let parts = starts all is in
        let bounds = len_utf8_bounds c in
        let long = length-encode c in
        let size : length all ≡ length (encode_utf8 c) + length (encode_utf8_all cs) = ap length (sym same)
        ∙ length-append (encode_utf8 c) (encode_utf8_all cs) in
        let sum : length all ≡ length bytes + length parts.0 = ap length parts.1 ∙ length-append bytes parts.0 in
        let m = length (encode_utf8 c) in
        let within : m ≤ length bytes =
        elim (cases_lt n 4) [
          | inl few ↦ omega (arith, size, sum, parts.2 few)
          | inr many ↦ omega (arith, count, bounds.1, long)
        ] in
        let front : take m bytes
        ≡ encode_utf8 c = front_of m bytes parts.0 (encode_utf8 c) (encode_utf8_all cs) within refl (sym parts.1
        ∙ sym same) in
        let fault = none (omega (arith, within, bounds.0, long)) in
        fault.longest m (omega (arith, bounds.0, long))
        (subst IsUtf8 (sym front) (IsUtf8-encode c (and_parts _ _ scalars).0))

    by_all : (all : Option (List ℕ)) → pairs digits ≡ all → option_and_then as_text all ≡ None
    by_all None is = refl
    by_all (Some all) is = by_test (is_utf8 all) refl
      where
        by_test : (b : Bool) → is_utf8 all ≡ b → cond b (Some all) None ≡ None
        by_test true e = absurd (no_text all is (IsUtf8-from_is_utf8 all e))
        by_test false e = refl

-- the same, where the rest is given by its length
pub text_behind_part : (some n : ℕ) (digits bytes : List ℕ) (behind : ℕ) → some ≤ length bytes → 2 * n ≤ length digits
    → hex_bytes (take (2 * n) digits) ≡ Some bytes → IsUtf8 (take some bytes)
    → length digits ≤ 2 * some + behind
    → is_some (hex_text digits) ≡ is_some (hex_text (take behind (drop (2 * some) digits)))
text_behind_part some n digits bytes behind within long e text all =
    text_behind some n digits bytes (omega (arith, within, bytes_count n digits bytes long e)) long e text
    ∙ ap (λ rest. is_some (hex_text rest))
    (sym (take_all behind (drop (2 * some) digits) (omega (arith, length-drop (2 * some) digits))))

-- no digits are the empty text
pub no_digits : (digits : List ℕ) → length digits ≡ 0 → is_some (hex_text digits) ≡ true
no_digits [] e = ap is_some (text_is []) ∙ is_some_text [] ∙ is_utf8-from_IsUtf8 [] IsUtf8-nil
no_digits (x ∷ digits) e = absurd (omega arith)
