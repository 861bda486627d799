-- What is left of an iterator over an array's items.
use Rattle.std.specs.Prelude.{◌-◌, ◌≤◌, List, length, take, drop}
use Rattle.arrow_check.specs.declared.values_iter.ArrayValuesIter.{ArrayValuesIter}

module _ {A S : Type 0} (items : A → List S) where
  -- the items that are left, in order
  abbrev pub rest_of : ArrayValuesIter A → List S
  rest_of s = take (s.end - s.index) (drop s.index (items s.array.now))

  -- the indexes of the iterator are within the array
  abbrev pub IsWithin : ArrayValuesIter A → Type 0
  IsWithin s = (s.index ≤ s.end) × (s.end ≤ length (items s.array.now))
