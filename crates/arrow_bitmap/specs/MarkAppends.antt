-- Marks of an iterator that are appended to a bitmap.
use Rattle.std.specs.Prelude.{◌≡◌, ◌++◌, Bool, List, Option}
use Rattle.std.specs.Iterator.{Drains, Yields}
use Rattle.arrow_types.specs.declared.error.Error.{Error}
use Rattle.arrow_types.specs.declared.error.Error.TheVariants as error

module _ {I : Type 0} where
  -- all of them
  abbrev pub AppendsMarks : (I → Option Bool → I → Type 0) → I → List Bool → List Bool → Type 0
  AppendsMarks gives iter old new = (marks : List Bool) × Drains gives iter marks × (new ≡ old ++ marks)

  -- those before an allocation failed
  abbrev pub AppendsMarksUntil : (I → Option Bool → I → Type 0) → I → List Bool → List Bool → Error → Type 0
  AppendsMarksUntil gives iter old new e = (e ≡ error.OutOfMemory) × ((begun : List Bool) × (rest : I)
      × Yields gives iter begun rest × (new ≡ old ++ begun))
