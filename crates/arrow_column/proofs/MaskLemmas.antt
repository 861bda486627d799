-- The mask of m slots followed by n others, by what is held.
use Rattle.std.proofs.Common.{◌≡◌, ℕ, Bool, true, false, List, ◌++◌, replicate, Option, Some, None, is_some, refl}
use Rattle.arrow_column.specs.Masks.{joined_mask, marks_under}

pub join-held : (marks : List Bool) (m : ℕ) (other : Option (List Bool)) (n : ℕ)
    → joined_mask (Some marks) m other n ≡ Some (marks ++ marks_under other n)
join-held marks m None n = refl
join-held marks m (Some others) n = refl

pub join-bare : (m : ℕ) (other : Option (List Bool)) (n : ℕ) → is_some other ≡ false
    → joined_mask None m other n ≡ None
join-bare m None n bare = refl
join-bare m (Some others) n bare = cc

pub join-new : (m : ℕ) (other : Option (List Bool)) (n : ℕ) → is_some other ≡ true
    → joined_mask None m other n ≡ Some (replicate m true ++ marks_under other n)
join-new m None n new = cc
join-new m (Some others) n new = refl

pub ruleset join_steps = (join-held, join-bare, join-new)
