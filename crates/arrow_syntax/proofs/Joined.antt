-- Lemmas on parts that are joined by spaces.
use Rattle.std.proofs.Common.{◌≡◌, ℕ, List, [], ◌∷◌, ◌++◌, map, flat_map, sym, ap, append-nil}
use Rattle.std.specs.List.{join_with_byte}

-- the first, and then a space before each other one
pub joined : {A : Type 0} (shown : A → List ℕ) (x : A) (xs : List A)
    → join_with_byte 32 (map shown (x ∷ xs)) ≡ shown x ++ flat_map (λ y. 32 ∷ shown y) xs
joined shown x [] = sym (append-nil (shown x))
joined shown x (y ∷ ys) = ap (λ rest. shown x ++ 32 ∷ rest) (joined shown y ys)
