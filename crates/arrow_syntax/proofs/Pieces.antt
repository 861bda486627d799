-- Lemmas on the pieces and the words of a text.
use Rattle.std.proofs.Common.{◌≡◌, ℕ, ◌+◌, ◌-◌, ◌<◌, ◌≤◌, suc, Bool, true, false, not, cond, nat_lt, List, []}
use Rattle.std.proofs.Common.{◌∷◌, length, take, drop, refl, sym, ap, ◌∙◌, arith, Option, Some, None}
use Rattle.std.proofs.Common.{length-drop}
use Rattle.std.specs.Prelude.{position, IfSome, unwrap_or}
use Rattle.std.specs.List.{slice_split, onto_first, position_or_len}
use Rattle.std.proofs.lemmas.List.{take_all}
use Rattle.std.proofs.lemmas.List.Splits.{slice_split_first}
use Rattle.std.proofs.lemmas.Bool.{ltb-true, ltb-false, lt-ltb}
use Rattle.std.proofs.lemmas.Option.{cond_some}
use denote.Ref.{Bor}
use Rattle.arrow_syntax.specs.Words.{SplitsAt, pieces, words_of}

module _ (p : ℕ → Bool) where
  whole-cons : (x : ℕ) (xs : List ℕ) (b : Bool) → suc (length xs) ≤ cond (not b) (1 + position_or_len p xs) 0
      → (length xs ≤ position_or_len p xs → slice_split p xs ≡ xs ∷ [])
      → cond b ([] ∷ slice_split p xs) (onto_first x (slice_split p xs)) ≡ (x ∷ xs) ∷ []
  whole-cons x xs true h rest = absurd (omega arith)
  whole-cons x xs false h rest = ap (onto_first x) (rest (omega arith))

  -- a text without the byte is one piece
  whole : (xs : List ℕ) → length xs ≤ position_or_len p xs → slice_split p xs ≡ xs ∷ []
  whole [] h = refl
  whole (x ∷ xs) h = whole-cons x xs (p x) h (whole xs)

  pub cut_none : (xs : List ℕ) → position p xs ≡ None → slice_split p xs ≡ xs ∷ []
  cut_none xs e = whole xs (past (nat_lt (position_or_len p xs) (length xs)) refl e)
    where
      past : (b : Bool) → nat_lt (position_or_len p xs) (length xs) ≡ b
          → cond b (Some (position_or_len p xs)) None ≡ None → length xs ≤ position_or_len p xs
      past true t n = cc
      past false t n = ltb-false _ _ t

  pub cut_some : (xs : List ℕ) (n : ℕ) → position p xs ≡ Some n
      → slice_split p xs ≡ take n xs ∷ slice_split p (take (length xs - (n + 1)) (drop (n + 1) xs))
  cut_some xs n e =
      let found = cond_some _ _ _ e in
      let first = slice_split_first p xs 0 (ltb-true _ _ found.0) in
      let same : position_or_len p xs ≡ n = found.1 in
      let tail = take_all (length xs - (n + 1)) (drop (n + 1) xs) (omega (arith, length-drop (n + 1) xs)) in
      rw tail (rw same at first)

-- the words of the text that follows, if any
abbrev pub words_after : Option (Bor (List ℕ)) → List (List ℕ)
words_after None = []
words_after (Some text) = words_of text.now

-- the length of the text that follows, and of the byte before it
abbrev pub length_after : Option (Bor (List ℕ)) → ℕ
length_after None = 0
length_after (Some text) = length text.now + 1

-- the text that follows is shorter
pub after_shorter : (after : Option (Bor (List ℕ))) (n : ℕ) → IfSome after (λ text. length text.now < n)
    → length_after after ≤ n
after_shorter None n h = omega arith
after_shorter (Some text) n h = omega arith

pub words_none : words_of [] ≡ []
unfolding words_of pieces
words_none = refl

pub words_first : (line word rest : List ℕ) → pieces 32 line ≡ word ∷ pieces 32 rest → 0 < length word
    → words_of line ≡ word ∷ words_of rest
unfolding words_of
words_first line word rest e long = rw (e, lt-ltb 0 (length word) long) refl

pub words_last : (line word : List ℕ) → pieces 32 line ≡ word ∷ [] → 0 < length word → words_of line ≡ word ∷ []
unfolding words_of
words_last line word e long = rw (e, lt-ltb 0 (length word) long) refl

words_skip : (line word rest : List ℕ) → pieces 32 line ≡ word ∷ pieces 32 rest → length word ≡ 0
    → words_of line ≡ words_of rest
unfolding words_of
words_skip line word rest e empty = rw (e, empty) refl

words_end : (line word : List ℕ) → pieces 32 line ≡ word ∷ [] → length word ≡ 0 → words_of line ≡ []
unfolding words_of
words_end line word e empty = rw (e, empty) refl

pub words_from_cut : (line word : List ℕ) (after : Option (Bor (List ℕ))) → SplitsAt 32 line word after → 0 < length word
    → words_of line ≡ word ∷ words_after after
words_from_cut line word None e long = words_last line word e long
words_from_cut line word (Some rest) e long = words_first line word rest.now e long

pub words_past_cut : (line word : List ℕ) (after : Option (Bor (List ℕ))) → SplitsAt 32 line word after → length word ≡ 0
    → words_of line ≡ words_after after
words_past_cut line word None e empty = words_end line word e empty
words_past_cut line word (Some rest) e empty = words_skip line word rest.now e empty

pub words_unwrapped : (after : Option (Bor (List ℕ))) (empty : Bor (List ℕ)) → empty.now ≡ []
    → words_after after ≡ words_of (unwrap_or after empty).now
words_unwrapped None empty e = sym words_none ∙ ap words_of (sym e)
words_unwrapped (Some text) empty e = refl
