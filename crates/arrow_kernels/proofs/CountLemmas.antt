-- Lemmas about how many slots are true.
use Rattle.std.proofs.Common.{◌≡◌, ◌+◌, Bool, cond, false, List, [], ◌∷◌, map, Option, refl, sym, ap, ◌∙◌, count_by}
use Rattle.std.specs.Prelude.{unwrap_or}
use Rattle.std.proofs.lemmas.List.Sums.{sum_by-cons}

abbrev pub is_true : Option Bool → Bool
is_true shown = unwrap_or shown false

-- as many rows are asked for as slots are true
pub count-shown : (slots : List (Option Bool)) → count_by (λ mark. mark) (map is_true slots) ≡ count_by is_true slots
count-shown [] = refl
count-shown (shown ∷ slots) =
    sum_by-cons (λ mark. cond mark 1 0) (is_true shown) (map is_true slots)
    ∙ ap (λ n. cond (is_true shown) 1 0 + n) (count-shown slots)
    ∙ sym (sum_by-cons (λ shown. cond (is_true shown) 1 0) shown slots)
