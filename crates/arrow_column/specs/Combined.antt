-- Lists and arrays that are made of others, place by place, and arrays that are made of slots.
use Rattle.std.specs.Prelude.{◌≡◌, ◌&&◌, Bool, List, Option, map, not}
use Rattle.std.specs.List.{zip}
use Rattle.arrow_types.specs.Types.{LogicalType}
use Rattle.arrow_column.specs.Column.{ColumnWith, all_valid, slots_of}

-- what is made of each two values at one place
abbrev pub of_pairs : {X Y Z : Type 0} → (X → Y → Z) → List X → List Y → List Z
of_pairs make xs ys = map (λ pair. make pair.0 pair.1) (zip xs ys)

-- a mark for each of as many values and marks: set where both are
abbrev pub set_in_both : List Bool → List Bool → List Bool
set_in_both values marks = map (λ row. row.1 && row.0) (zip values marks)

-- an array of this type and these slots, which holds a mask exactly if one of them is null
pub record MakesSlots {A S : Type 0} (t : LogicalType) (shown : List (Option S)) (made : ColumnWith A S) : Type 0 where
  pub data_type : made.data_type ≡ t
  pub slots : slots_of made ≡ shown
  pub held : made.held ≡ not (all_valid made)
