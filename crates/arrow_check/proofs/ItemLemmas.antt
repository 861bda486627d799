-- Pieces of a list that lose an end.
use Rattle.std.proofs.Common.{◌≡◌, ℕ, ◌+◌, ◌-◌, ◌<◌, ◌≤◌, List, [], ◌∷◌, length, take, drop}
use Rattle.std.proofs.Common.{Option, Some, None, MatchOption, ap, ◌∙◌, arith}
use Rattle.std.proofs.lemmas.List.{drop-drop, drop-take}
use Rattle.arrow_types.proofs.CallerLemmas.{between-first, between-last, between-none, length-between}

-- a piece without its first n is the piece that begins n later
skipped : {S : Type 0} (xs : List S) (i e n : ℕ) → n < e - i
    → drop n (take (e - i) (drop i xs)) ≡ take (e - (i + n)) (drop (i + n) xs)
skipped xs i e n within =
    let all : e - i ≡ n + (e - (i + n)) = omega arith in
    ap (λ k. drop n (take k (drop i xs))) all ∙ drop-take n (e - (i + n)) (drop i xs)
    ∙ ap (take (e - (i + n))) (drop-drop n i xs)

-- what the piece that begins n later gives first comes after n of the piece
pub skips : {A S : Type 0} (seen : A → S) (xs : List S) (i e n : ℕ) (r : Option A) (rest : List S) → n < e - i
    → e ≤ length xs
    → MatchOption r ((take (e - (i + n)) (drop (i + n) xs) ≡ []) × (rest ≡ [])) (λ x.
    take (e - (i + n)) (drop (i + n) xs) ≡ seen x ∷ rest)
    → MatchOption r ((length (take (e - i) (drop i xs)) ≤ n) × (rest ≡ [])) (λ x. drop n (take (e - i) (drop i xs))
    ≡ seen x ∷ rest)
skips seen xs i e n None rest within high (none, ends) =
    let more : length (take (e - (i + n)) (drop (i + n) xs)) ≡ e - (i + n) =
    length-between xs (i + n) e high in
    absurd (omega (arith, more, ap length none))
skips seen xs i e n (Some x) rest within high first = skipped xs i e n within ∙ first

pub ruleset rest_steps = (between-none, between-first, between-last, length-between)
