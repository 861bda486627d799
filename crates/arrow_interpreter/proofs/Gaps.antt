-- Lemmas on parts that are appended in order, with a space between each two.
use Rattle.std.proofs.Common.{◌≡◌, ◌∙◌, ℕ, zero, suc, ◌+◌, List, [], ◌∷◌, ◌++◌, map, flat_map, take, slice_get}
use Rattle.std.proofs.Common.{MatchOption, Option, Some, None, refl, sym, ap, append-nil, append_assoc, arith}
use Rattle.std.specs.List.{join_with_byte}
use Rattle.arrow_syntax.proofs.CallerLemmas.{joined}
use Rattle.arrow_interpreter.specs.Listing.{gap}

module _ {A : Type 0} where
  head-is : (z y : A) (zs : List A) → slice_get (z ∷ zs) 0 ≡ Some y → z ≡ y
  head-is z y zs is = grind arith

  -- a flattened list grows by the part at an index
  flat-more : (g : A → List ℕ) (ys : List A) (i : ℕ) (y : A) → slice_get ys i ≡ Some y
      → flat_map g (take (suc i) ys) ≡ flat_map g (take i ys) ++ g y
  flat-more g [] i y is = grind arith
  flat-more g (z ∷ zs) zero y is = rw (head-is z y zs is) (append-nil (g y))
  flat-more g (z ∷ zs) (suc i) y is = ap (λ rest. g z ++ rest) (flat-more g zs i y is)
      ∙ sym (append_assoc (g z) (flat_map g (take i zs)) (g y))

  -- the parts before an index, and then the one at it
  pub joined-more : (shown : A → List ℕ) (ys : List A) (i : ℕ) (y : A) → slice_get ys i ≡ Some y
      → join_with_byte 32 (map shown (take (suc i) ys)) ≡ join_with_byte 32 (map shown (take i ys))
      ++ (gap i ++ shown y)
  joined-more shown [] i y is = grind arith
  joined-more shown (z ∷ zs) zero y is = ap shown (head-is z y zs is)
  joined-more shown (z ∷ zs) (suc i) y is =
      joined shown z (take (suc i) zs)
      ∙ ap (λ rest. shown z ++ rest) (flat-more (λ x. 32 ∷ shown x) zs i y is)
      ∙ sym (append_assoc (shown z) (flat_map (λ x. 32 ∷ shown x) (take i zs)) (32 ∷ shown y))
      ∙ ap (λ before. before ++ 32 ∷ shown y) (sym (joined shown z (take i zs)))

  -- the text of the parts before an index, a gap, and then the part at it
  pub text-more : (shown : A → List ℕ) (ys : List A) (i : ℕ) (begun up gapped done : List ℕ)
      → up ≡ begun ++ join_with_byte 32 (map shown (take i ys)) → gapped ≡ up ++ gap i
      → MatchOption (slice_get ys i) ⊥ (λ y. done ≡ gapped ++ shown y)
      → done ≡ begun ++ join_with_byte 32 (map shown (take (i + 1) ys))
  text-more shown ys i begun up gapped done before gaps last = by-part (slice_get ys i) refl last
    where
      by-part : (part : Option A) → slice_get ys i ≡ part → MatchOption part ⊥ (λ y. done ≡ gapped ++ shown y)
          → done ≡ begun ++ join_with_byte 32 (map shown (take (i + 1) ys))
      by-part None is h = absurd h
      by-part (Some y) is h =
          h ∙ ap (λ text. text ++ shown y) (gaps ∙ ap (λ text. text ++ gap i) before)
          ∙ append_assoc (begun ++ join_with_byte 32 (map shown (take i ys))) (gap i) (shown y)
          ∙ append_assoc begun (join_with_byte 32 (map shown (take i ys))) (gap i ++ shown y)
          ∙ ap (λ text. begun ++ text)
          (sym (ap (λ n. join_with_byte 32 (map shown (take n ys))) (let e : i + 1 ≡ suc i = omega arith in e)
          ∙ joined-more shown ys i y is))
