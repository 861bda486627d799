-- What holds of each element of a list holds of each of what is made of it.
use Rattle.std.proofs.Common.{◌≡◌, ℕ, ℤ, zero, suc, Bool, true, false, List, [], ◌∷◌, reverse, slice_get}
use Rattle.std.proofs.Common.{slice_set, Option, Some, None, option_and_then, refl, sym, subst}
use Rattle.std.proofs.lemmas.List.{reverse-append}
use Rattle.std.proofs.lemmas.List.Elements.{All-nil, All-cons, All-head, All-tail, All-append}
use Rattle.std.specs.Prelude.{All, IfSome}
use Rattle.std.specs.List.{cons_option}
use Rattle.arrow_types.specs.IndexKey.{index_of}
use Rattle.arrow_types.proofs.CallerLemmas.{all-at}
use Rattle.arrow_bytes.specs.Selection.{at_key, at_keys, where_set}

module _ {X : Type 0} (P : X → Type 0) where
  if-got : (xs : List X) (i : ℕ) (found : Option X) → slice_get xs i ≡ found → All P xs → IfSome found P
  if-got xs i None is all = tt
  if-got xs i (Some y) is all = all-at P xs i y all is

  pub set-all : (xs : List X) (i : ℕ) (y : X) → P y → All P xs → All P (slice_set xs i y)
  set-all [] i y p all = all
  set-all (x ∷ xs) zero y p all = All-cons P y xs p (All-tail P x xs all)
  set-all (x ∷ xs) (suc i) y p all = All-cons P x (slice_set xs i y) (All-head P x xs all)
      (set-all xs i y p (All-tail P x xs all))

  pub reverse-all : (xs : List X) → All P xs → All P (reverse xs)
  reverse-all [] all = all
  reverse-all (x ∷ xs) all =
      subst (All P) (sym (reverse-append (x ∷ []) xs))
      (All-append P (reverse xs) (x
      ∷ []) (reverse-all xs (All-tail P x xs all)) (All-cons P x [] (All-head P x xs all) (All-nil P)))

  -- of some of a list, by marks or by keys
  pub where-all : (marks : List Bool) (xs : List X) → All P xs → All P (where_set marks xs)
  where-all marks [] all = All-nil P
  where-all [] (x ∷ xs) all = All-nil P
  where-all (true ∷ marks) (x
      ∷ xs) all = All-cons P x (where_set marks xs) (All-head P x xs all) (where-all marks xs (All-tail P x xs all))
  where-all (false ∷ marks) (x ∷ xs) all = where-all marks xs (All-tail P x xs all)

  found-all : (xs : List X) (place : Option ℕ) → All P xs → IfSome (option_and_then (slice_get xs) place) P
  found-all xs None all = tt
  found-all xs (Some i) all = if-got xs i (slice_get xs i) refl all

  more-all : (found : Option X) (rest : List X) → IfSome found P → All P rest → All P (cons_option found rest)
  more-all None rest p all = all
  more-all (Some x) rest p all = All-cons P x rest p all

  pub keys-all : (keys : List ℤ) (xs : List X) → All P xs → All P (at_keys (λ key. key) keys xs)
  keys-all [] xs all = All-nil P
  keys-all (key ∷ keys) xs all = more-all (at_key xs key) (at_keys (λ key. key) keys xs)
      (found-all xs (index_of key) all) (keys-all keys xs all)
