-- Lemmas on the bytes of an input and those of its lines.
use Rattle.std.proofs.Common.{◌≡◌, ℕ, Bool, true, false, cond, List, [], ◌∷◌, refl}
use Rattle.std.specs.Prelude.{◌&&◌, ◌||◌, ◌==◌, nat_le}
use Rattle.std.specs.List.{list_all, slice_split, onto_first}
use Rattle.arrow_syntax.specs.Lines.{is_of_lines}
use Rattle.arrow_syntax.specs.Words.{is_printable, lines_of, pieces}

-- all pieces have only bytes that pass
abbrev all_pass : (ℕ → Bool) → List (List ℕ) → Bool
all_pass p = list_all (list_all p)

onto_passes : (p : ℕ → Bool) (x : ℕ) (ys : List (List ℕ)) → p x ≡ true → all_pass p ys ≡ true
    → all_pass p (onto_first x ys) ≡ true
onto_passes p x [] h k = rw h refl
onto_passes p x (y ∷ ys) h k = rw h k

-- a byte that passes, or separates two pieces
module _ (p q : ℕ → Bool) where
  step : (x : ℕ) (xs : List ℕ) (passes parts : Bool) → p x ≡ passes → q x ≡ parts → (passes || parts) ≡ true
      → all_pass p (slice_split q xs) ≡ true
      → all_pass p (cond parts ([] ∷ slice_split q xs) (onto_first x (slice_split q xs))) ≡ true
  step x xs passes true e f h k = k
  step x xs true false e f h k = onto_passes p x (slice_split q xs) e k
  step x xs false false e f h k = absurd (cc h)

  pieces_pass : (xs : List ℕ) → list_all (λ b. p b || q b) xs ≡ true → all_pass p (slice_split q xs) ≡ true
  pieces_pass [] h = refl
  pieces_pass (x ∷ xs) h =
      let parts = and_both (p x || q x) (list_all (λ b. p b || q b) xs) h in
      step x xs (p x) (q x) refl refl parts.0 (pieces_pass xs parts.1)
    where
      and_both : (a b : Bool) → (a && b) ≡ true → (a ≡ true) × (b ≡ true)
      and_both true b e = (refl, e)
      and_both false b e = absurd (cc e)

pub lines_printable : (input : List ℕ) → list_all is_of_lines input ≡ true
    → list_all is_printable (lines_of input) ≡ true
unfolding pieces
lines_printable input h = pieces_pass (λ b. nat_le 32 b && nat_le b 126) (λ b. b == 10) input h
