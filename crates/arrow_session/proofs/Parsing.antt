-- Lemmas on parsing an input line by line.
use Rattle.std.proofs.Common.{◌≡◌, ℕ, suc, ◌+◌, Bool, true, false, cond, nat_lt, List, [], ◌∷◌, ◌++◌, length}
use Rattle.std.proofs.Common.{refl, sym, ap, ◌∙◌, append_assoc, append-nil, arith, Option, Some, None, ℤ}
use Rattle.std.proofs.lemmas.Bool.{ltb-true, ltb-false, lt-ltb, le-ltb}
use Rattle.std.specs.Prelude.{◌&&◌, position, filter_map, option_map, IsTrue, MatchOption}
use Rattle.std.specs.List.{list_all, position_or_len, cons_option}
use Rattle.std.specs.Option.{option_to_list}
use denote.Ref.{Bor}
use Rattle.arrow_model.specs.Both.{BothRequest}
use Rattle.arrow_syntax.specs.Lines.{ParsedInput, requests, bad_line, parsed_at, commands_of, is_bad, line_request}
use Rattle.arrow_syntax.specs.Words.{is_printable, lines_of}

-- the lines of the text that follows, if any
abbrev pub lines_after : Option (Bor (List ℕ)) → List (List ℕ)
lines_after None = []
lines_after (Some text) = lines_of text.now

-- an input parsed up to the line of this number, with these requests so far, by the index of the first bad line left
abbrev parsed_with : ℕ → List (BothRequest ℤ) → Option ℕ → List (BothRequest ℤ) → ParsedInput
parsed_with n before None asked = requests (before ++ asked)
parsed_with n before (Some place) asked = bad_line (place + n)

-- an input parsed up to the line of this number, with these requests so far, and these lines left
unfoldable pub parsed_from : ℕ → List (BothRequest ℤ) → List (List ℕ) → ParsedInput
parsed_from n before rest = parsed_with n before (position is_bad rest) (filter_map line_request rest)

from_first : (found : Option ℕ) (asked : List (BothRequest ℤ)) → parsed_at found asked ≡ parsed_with 1 [] found asked
from_first None asked = refl
from_first (Some place) asked = refl

pub commands_of_is : (input : List ℕ) → commands_of input ≡ parsed_from 1 [] (lines_of input)
unfolding commands_of parsed_from
commands_of_is input = from_first (position is_bad (lines_of input)) (filter_map line_request (lines_of input))

-- the index of the first element that passes, behind one that does not, and at one that does
module _ {X : Type 0} (p : X → Bool) where
  later_of : (n len : ℕ) (b : Bool) → nat_lt n len ≡ b
      → cond (nat_lt (1 + n) (suc len)) (Some (1 + n)) None
      ≡ option_map (λ k. 1 + k) (cond (nat_lt n len) (Some n) None)
  later_of n len true t = rw (t, lt-ltb (1 + n) (suc len) (omega (arith, ltb-true n len t))) refl
  later_of n len false t = rw (t, le-ltb (1 + n) (suc len) (omega (arith, ltb-false n len t))) refl

  place_later : (x : X) (xs : List X) → p x ≡ false → position p (x ∷ xs) ≡ option_map (λ k. 1 + k) (position p xs)
  place_later x xs e = rw e (later_of (position_or_len p xs) (length xs) _ refl)

  place_here : (x : X) (xs : List X) → p x ≡ true → position p (x ∷ xs) ≡ Some 0
  place_here x xs e = rw e (first_of_some (length xs))
    where
      first_of_some : (len : ℕ) → cond {A = Option ℕ} (nat_lt 0 (suc len)) (Some 0) None ≡ Some 0
      first_of_some len = rw (lt-ltb 0 (suc len) (omega arith)) refl

next_number : (n : ℕ) (before asked : List (BothRequest ℤ)) (found : Option ℕ)
    → parsed_with n before (option_map (λ k. 1 + k) found) asked ≡ parsed_with (n + 1) before found asked
next_number n before asked None = refl
next_number n before asked (Some k) = let e : 1 + k + n ≡ k + (n + 1) = omega arith in ap bad_line e

next_request : (n : ℕ) (before asked : List (BothRequest ℤ)) (c : Option (BothRequest ℤ)) (found : Option ℕ)
    → parsed_with n before found (cons_option c asked) ≡ parsed_with n (before ++ option_to_list c) found asked
next_request n before asked None found = ap (λ requests. parsed_with n requests found asked) (sym (append-nil before))
next_request n before asked (Some c) None = ap requests (sym (append_assoc before (c ∷ []) asked))
next_request n before asked (Some c) (Some k) = refl

-- one line more is parsed: it is good, and may make a request, or it is bad
module _ (n : ℕ) (before : List (BothRequest ℤ)) (line : List ℕ) (rest : List (List ℕ)) where
  pub reads_good : is_bad line ≡ false
      → parsed_from n before (line ∷ rest) ≡ parsed_from (n + 1) (before ++ option_to_list (line_request line)) rest
  unfolding parsed_from
  reads_good e =
      rw (place_later is_bad line rest e)
      (next_number n before (filter_map line_request (line ∷ rest)) (position is_bad rest)
      ∙ next_request (n + 1) before (filter_map line_request rest) (line_request line) (position is_bad rest))

  pub reads_bad : is_bad line ≡ true → parsed_from n before (line ∷ rest) ≡ bad_line n
  unfolding parsed_from
  reads_bad e = let same : 0 + n ≡ n = omega arith in rw (place_here is_bad line rest e) (ap bad_line same)

pub reads_all : (n : ℕ) (before : List (BothRequest ℤ)) → parsed_from n before [] ≡ requests before
unfolding parsed_from
reads_all n before = ap requests (append-nil before)

-- the first line of a text, and the others
pub lines_cut : (text line : List ℕ) (after : Option (Bor (List ℕ)))
    → MatchOption after (lines_of text ≡ line ∷ []) (λ rest. lines_of text ≡ line ∷ lines_of rest.now)
    → lines_of text ≡ line ∷ lines_after after
lines_cut text line None e = e
lines_cut text line (Some rest) e = e

-- lines that are printable: the first, and the others
pub all_printable_cut : (line : List ℕ) (rest : List (List ℕ)) → IsTrue (list_all is_printable (line ∷ rest))
    → IsTrue (is_printable line) × IsTrue (list_all is_printable rest)
all_printable_cut line rest h = both (is_printable line) (list_all is_printable rest) h
  where
    both : (a b : Bool) → IsTrue (a && b) → IsTrue a × IsTrue b
    both true b h = (refl, h)
    both false b h = absurd (cc h)
