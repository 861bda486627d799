-- Lemmas on lists that are read element by element.
use Rattle.std.proofs.Common.{◌≡◌, ℕ, List, [], ◌++◌, refl, Option, Some, None, is_some}
use Rattle.std.specs.Prelude.{option_map}
use Rattle.arrow_types.proofs.CallerLemmas.{is_some-option_map}
use Rattle.arrow_syntax.specs.Readers.{Reader, map_read}

-- the elements read before, and then the others
abbrev pub behind : {A : Type 0} → List A → Option (List A) → Option (List A)
behind before others = option_map (λ ys. before ++ ys) others

pub behind_nothing : {A : Type 0} (others : Option (List A)) → others ≡ behind [] others
behind_nothing None = refl
behind_nothing (Some ys) = refl

-- ---- converted values

module _ {A B : Type 0} where
  pub reads_some : (reader : Reader A) (make : A → B) (words : List (List ℕ))
      → is_some (map_read reader make words) ≡ is_some (reader words)
  reads_some reader make words = is_some-option_map make (reader words)
