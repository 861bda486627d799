-- Lemmas about the marks of some consecutive slots.
use Rattle.std.proofs.Common.{◌≡◌, ℕ, ◌-◌, Bool, List, map, take, drop, Option, Some, None, option_map, sym}
use Rattle.std.proofs.Common.{ap, ap₂, subst, ◌∙◌, min, length-take, length-drop}
use Rattle.arrow_types.proofs.CallerLemmas.{map-piece}
use Rattle.arrow_memory.specs.Rows.{FitsMask, Row, rows_of, slot}
use Rattle.arrow_column.proofs.RowLemmas.{cut-rows, stored-rows}

-- as many marks as values, of a cut
piece-fits : {S : Type 0} (values : List S) (mask : Option (List Bool)) (a n : ℕ) → FitsMask values mask
    → FitsMask (take n (drop a values)) (option_map (λ marks. take n (drop a marks)) mask)
piece-fits values None a n fits = tt
piece-fits values (Some marks) a n fits = simp (length-take, length-drop) (ap (λ k. min n (k - a)) fits)

-- the marks of a cut, with the stored values there, show the slots there
module _ {S : Type 0} (values : List S) (mask ns : Option (List Bool)) (a n : ℕ) (fits : FitsMask values mask)
    (cut : ns ≡ option_map (λ marks. take n (drop a marks)) mask) where
  pub range-slots : map slot (rows_of (take n (drop a (map (λ (row : Row S). row.0) (rows_of values mask)))) ns)
      ≡ take n (drop a (map slot (rows_of values mask)))
  range-slots =
      ap₂ (λ vs ms. map slot (rows_of (take n (drop a vs)) ms)) (stored-rows values mask fits) cut
      ∙ ap (map slot) (cut-rows a n values mask) ∙ map-piece slot (rows_of values mask) a n

  pub range-fits : FitsMask (take n (drop a (map (λ (row : Row S). row.0) (rows_of values mask)))) ns
  range-fits = subst (λ ms. FitsMask (take n (drop a (map (λ (row : Row S). row.0) (rows_of values mask)))) ms)
      (sym cut) (subst (λ vs. FitsMask (take n (drop a vs)) (option_map (λ marks. take n (drop a marks)) mask))
      (sym (stored-rows values mask fits)) (piece-fits values mask a n fits))
