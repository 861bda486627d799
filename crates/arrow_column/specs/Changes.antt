-- How closures change columns. A closure is given as the relation of its argument to what it returns.
use Rattle.std.specs.Prelude.{⊤, ◌≡◌, Bool, List, length, Some, MatchOption, Vec, vec_len}
use Rattle.arrow_column.specs.Column.{ColumnWith, mask_of, stored_values, with_mask, with_stored}

module _ {A S : Type 0} where
  -- a held mask is replaced by what the closure returns for it, which has as many marks
  abbrev pub ChangesMask : (List Bool → List Bool → Type 0) → ColumnWith A S → ColumnWith A S → Type 0
  ChangesMask post old new = MatchOption (mask_of old) (new ≡ old) (λ marks. (changed : List Bool)
      × post marks changed × (length changed ≡ length marks) × (new ≡ with_mask old (Some changed)))

  -- the stored values are replaced by what the closure returns for them, as many
  abbrev pub ReplacesStored : (List S → List S → Type 0) → ColumnWith A S → ColumnWith A S → Type 0
  ReplacesStored post old new = (changed : List S) × post (stored_values old) changed
      × (length changed ≡ length old.rows) × (new ≡ with_stored old changed)

  -- the stored values are what the closure leaves in their place, as many; the closure returns nothing
  abbrev pub WritesStored : (List S → ⊤ → List S → Type 0) → ColumnWith A S → ColumnWith A S → Type 0
  WritesStored call old new = (values : List S) × call (stored_values old) tt values
      × (length values ≡ length old.rows) × (new ≡ with_stored old values)

  module _ {Z : Type 0} where
    -- for a vector of the stored values the closure returns one of as many
    abbrev pub KeepsCount : (Vec S Z → Vec S Z → Type 0) → ColumnWith A S → Type 0
    KeepsCount post column = (values changed : Vec S Z) → values.items ≡ stored_values column → post values changed
        → vec_len changed ≡ length column.rows

    -- the stored values are replaced by those of the vector that the closure returns for a vector of them
    abbrev pub ReplacesVec : (Vec S Z → Vec S Z → Type 0) → ColumnWith A S → ColumnWith A S → Type 0
    ReplacesVec post old new = (values changed : Vec S Z) × (values.items ≡ stored_values old) × post values changed
        × (vec_len changed ≡ length old.rows) × (new ≡ with_stored old changed.items)
