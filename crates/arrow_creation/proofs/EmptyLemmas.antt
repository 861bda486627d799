-- Arrays and builders with no slot, and arrays of nulls: seeing them over what slots store, of any value kind.
use Rattle.std.proofs.Common.{◌≡◌, ℕ, zero, suc, true, false, [], ◌∷◌, map, replicate, Some, None, refl, ap}
use Rattle.std.specs.List.{zip}
use Rattle.arrow_types.specs.Types.{LogicalType}
use Rattle.arrow_memory.specs.Rows.{Row}
use Rattle.arrow_column.specs.Column.{ColumnWith, empty_column, column_of_parts, column_with}
use Rattle.arrow_bytes.specs.Pieces.{Around, nothing_around}
use Rattle.arrow_model.specs.Item.{Stored}
use Rattle.arrow_entry.specs.Entry.{erase_type}

module _ {S T : Type 0} (stored : S → Stored T) where
  pub empty-plain : (t : LogicalType) → erase_type (λ _. nothing_around) stored (empty_column t)
      ≡ column_with t nothing_around [] None
  unfolding erase_type
  empty-plain t = refl

  pub empty-masked : (t : LogicalType) → erase_type (λ _. nothing_around) stored (column_of_parts t [] (Some []))
      ≡ column_with t nothing_around [] (Some [])
  unfolding erase_type
  empty-masked t = refl

  pub empty-around : (t : LogicalType) → erase_type (λ around. around) stored (column_with t nothing_around [] None)
      ≡ column_with t nothing_around [] None
  unfolding erase_type
  empty-around t = refl

  -- a list of nulls
  rows-null : (n : ℕ) (x : S) → map (λ (r : Row S). (stored r.0, r.1)) (zip (replicate n x) (replicate n false))
      ≡ zip (replicate n (stored x)) (replicate n false)
  rows-null zero x = refl
  rows-null (suc n) x = ap (λ rest. (stored x, false) ∷ rest) (rows-null n x)

  pub nulls-plain : (t : LogicalType) (n : ℕ) (x : S)
      → erase_type (λ _. nothing_around) stored (column_of_parts t (replicate n x) (Some (replicate n false)))
      ≡ column_with t nothing_around (replicate n (stored x)) (Some (replicate n false))
  unfolding erase_type
  nulls-plain t n x = ap (λ rows. let whole : ColumnWith Around (Stored T) =
      record { data_type = t; around = nothing_around; rows = rows; held = true } in whole) (rows-null n x)

  pub nulls-around : (t : LogicalType) (n : ℕ) (x : S)
      → erase_type (λ around. around) stored (column_with t nothing_around (replicate n x) (Some (replicate n false)))
      ≡ column_with t nothing_around (replicate n (stored x)) (Some (replicate n false))
  unfolding erase_type
  nulls-around t n x = ap (λ rows. let whole : ColumnWith Around (Stored T) =
      record { data_type = t; around = nothing_around; rows = rows; held = true } in whole) (rows-null n x)

pub ruleset seen_nulls = (nulls-plain, nulls-around)

pub ruleset seen_empty = (empty-plain, empty-masked, empty-around)
