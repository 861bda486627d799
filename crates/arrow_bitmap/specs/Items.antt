-- What an iterator over a list's items passes over.
use Rattle.std.specs.Prelude.{◌≡◌, ℕ, ◌≤◌, List, [], ◌∷◌, length, drop, Option, MatchOption}

-- of a state's list n items were passed over and the next was given; or, where no more than n were left, all were
-- passed over
module _ {S A B : Type 0} (seen : A → B) (rest : S → List B) where
  abbrev pub SkipsThenFirstBy : ℕ → S → Option A → S → Type 0
  SkipsThenFirstBy n s r t = MatchOption r ((length (rest s) ≤ n) × (rest t ≡ [])) (λ x.
      drop n (rest s) ≡ seen x ∷ rest t)
