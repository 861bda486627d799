-- A first word that is a number of one or two digits.
use Rattle.std.proofs.Common.{◌≡◌, ◌∙◌, ◌-◌, ◌<◌, ◌≤◌, ℕ, Bool, true, false, List, [], ◌∷◌, length, take, drop}
use Rattle.std.proofs.Common.{slice_index, ap, arith, Option, Some, None, refl}
use Rattle.std.specs.Prelude.{◌==◌, option_and_then, option_map}
use Rattle.std.proofs.lemmas.Bool.{eqb-true}
use Rattle.std.proofs.lemmas.List.{take_all}
use Rattle.arrow_syntax.specs.Readers.{first}
use Rattle.arrow_syntax.specs.Words.{parse_usize, pieces, with_digit, words_of}
use Rattle.arrow_syntax.proofs.NumberLemmas.{number_after, parse_usize_is}
use Rattle.arrow_syntax.proofs.Pieces.{words_first, words_last, words_none}

-- a byte that goes on with a number is no space
no_space : (m d n : ℕ) → with_digit m d ≡ Some n → (d == 32) ≡ false
no_space m d n e = by_test (d == 32) refl
  where
    by_test : (b : Bool) → (d == 32) ≡ b → b ≡ false
    by_test false t = refl
    by_test true t = absurd (cc (rw (eqb-true d 32 t) at e))

-- the number that two digits write
abbrev pub two_digits : ℕ → ℕ → Option ℕ
two_digits tens ones = option_and_then (λ n. with_digit n ones) (with_digit 0 tens)

-- the number of the first of them
first_of_two : (ones n : ℕ) (x : Option ℕ) → option_and_then (λ m. with_digit m ones) x ≡ Some n
    → (m : ℕ) × (x ≡ Some m) × (with_digit m ones ≡ Some n)
first_of_two ones n None e = absurd (cc)
first_of_two ones n (Some m) e = (m, refl, e)

one_digit : (d n : ℕ) → with_digit 0 d ≡ Some n → parse_usize (d ∷ []) ≡ Some n
one_digit d n e = parse_usize_is (d ∷ []) (omega arith) ∙ ap (option_and_then (λ m. number_after m [])) e

two_digits_are : (d e n m : ℕ) → with_digit 0 d ≡ Some m → with_digit m e ≡ Some n → parse_usize (d ∷ e ∷ []) ≡ Some n
two_digits_are d e n m a b = parse_usize_is (d ∷ e ∷ []) (omega arith)
    ∙ ap (option_and_then (λ k. number_after k (e ∷ []))) a ∙ ap (option_and_then (λ k. number_after k [])) b

-- ---- the first word, if the text goes on behind it, and if it ends there

number_first : (text word rest : List ℕ) (n : ℕ) → pieces 32 text ≡ word ∷ pieces 32 rest → 0 < length word
    → parse_usize word ≡ Some n → first parse_usize (words_of text) ≡ Some (n, words_of rest)
number_first text word rest n cut long e = ap (first parse_usize) (words_first text word rest cut long)
    ∙ ap (option_map (λ x. (x, words_of rest))) e

number_last : (text word : List ℕ) (n : ℕ) → pieces 32 text ≡ word ∷ [] → 0 < length word → parse_usize word ≡ Some n
    → first parse_usize (words_of text) ≡ Some (n, words_of [])
number_last text word n cut long e = rw words_none (ap (first parse_usize) (words_last text word cut long)
    ∙ ap (option_map (λ x. (x, []))) e)

one_piece : (d : ℕ) (rest : List ℕ) → (d == 32) ≡ false → pieces 32 (d ∷ 32 ∷ rest) ≡ (d ∷ []) ∷ pieces 32 rest
unfolding pieces
one_piece d rest h = rw h refl

one_last_piece : (d : ℕ) → (d == 32) ≡ false → pieces 32 (d ∷ []) ≡ (d ∷ []) ∷ []
unfolding pieces
one_last_piece d h = rw h refl

two_piece : (d e : ℕ) (rest : List ℕ) → (d == 32) ≡ false → (e == 32) ≡ false
    → pieces 32 (d ∷ e ∷ 32 ∷ rest) ≡ (d ∷ e ∷ []) ∷ pieces 32 rest
unfolding pieces
two_piece d e rest h k = rw (h, k) refl

two_last_piece : (d e : ℕ) → (d == 32) ≡ false → (e == 32) ≡ false → pieces 32 (d ∷ e ∷ []) ≡ (d ∷ e ∷ []) ∷ []
unfolding pieces
two_last_piece d e h k = rw (h, k) refl

-- ---- texts that are known by their first bytes

pub one_digit_first : (text : List ℕ) (n : ℕ) → 2 ≤ length text → slice_index text 1 ≡ 32
    → with_digit 0 (slice_index text 0) ≡ Some n
    → first parse_usize (words_of text) ≡ Some (n, words_of (take (length text - 2) (drop 2 text)))
one_digit_first [] n long space digit = absurd (omega arith)
one_digit_first (d ∷ []) n long space digit = absurd (omega arith)
one_digit_first (d ∷ b ∷ rest) n long space digit =
    let behind = take_all (length (d ∷ b ∷ rest) - 2) rest (omega arith) in
    rw (space, behind) (number_first (d ∷ 32 ∷ rest) (d ∷ []) rest n (one_piece d rest (no_space 0 d n digit)) (omega arith)
    (one_digit d n digit))

pub one_digit_alone : (text : List ℕ) (n : ℕ) → length text ≡ 1 → with_digit 0 (slice_index text 0) ≡ Some n
    → first parse_usize (words_of text) ≡ Some (n, words_of [])
one_digit_alone [] n long digit = absurd (omega arith)
one_digit_alone (d ∷ []) n long digit = number_last (d ∷ []) (d ∷ []) n (one_last_piece d (no_space 0 d n digit)) (omega arith)
    (one_digit d n digit)
one_digit_alone (d ∷ b ∷ rest) n long digit = absurd (omega arith)

pub two_digits_first : (text : List ℕ) (n : ℕ) → 3 ≤ length text → slice_index text 2 ≡ 32
    → two_digits (slice_index text 0) (slice_index text 1) ≡ Some n
    → first parse_usize (words_of text) ≡ Some (n, words_of (take (length text - 3) (drop 3 text)))
two_digits_first [] n long space digits = absurd (omega arith)
two_digits_first (d ∷ []) n long space digits = absurd (omega arith)
two_digits_first (d ∷ e ∷ []) n long space digits = absurd (omega arith)
two_digits_first (d ∷ e ∷ b ∷ rest) n long space digits =
    let behind = take_all (length (d ∷ e ∷ b ∷ rest) - 3) rest (omega arith) in
    let parts = first_of_two e n (with_digit 0 d) digits in
    let cut = two_piece d e rest (no_space 0 d parts.0 parts.1) (no_space parts.0 e n parts.2) in
    rw (space, behind) (number_first (d ∷ e ∷ 32 ∷ rest) (d ∷ e ∷ []) rest n cut (omega arith)
    (two_digits_are d e n parts.0 parts.1 parts.2))

pub two_digits_alone : (text : List ℕ) (n : ℕ) → length text ≡ 2
    → two_digits (slice_index text 0) (slice_index text 1) ≡ Some n
    → first parse_usize (words_of text) ≡ Some (n, words_of [])
two_digits_alone [] n long digits = absurd (omega arith)
two_digits_alone (d ∷ []) n long digits = absurd (omega arith)
two_digits_alone (d ∷ e ∷ []) n long digits =
    let parts = first_of_two e n (with_digit 0 d) digits in
    let cut = two_last_piece d e (no_space 0 d parts.0 parts.1) (no_space parts.0 e n parts.2) in
    number_last (d ∷ e ∷ []) (d ∷ e ∷ []) n cut (omega arith) (two_digits_are d e n parts.0 parts.1 parts.2)
two_digits_alone (d ∷ e ∷ b ∷ rest) n long digits = absurd (omega arith)
