-- Which values are legal offsets, and why legal offsets that don't fit the values are refused.
use Rattle.std.specs.Prelude.{◌≡◌, ℤ, pos, List, map, codes}
use Rattle.arrow_types.specs.Types.{Refusal, out_of_spec}
use Rattle.arrow_memory.specs.Offsets.{numbers_of, IsOffsets}

-- values of an offset type that are legal offsets; number is the number of a value
pub record AreLegal {O : Type 0} (number : O → ℤ) (values : List O) : Type 0 where
  pub whole : map number values ≡ map pos (numbers_of number values)
  pub legal : IsOffsets (numbers_of number values)

-- the last offset is past the values
abbrev pub past_values : Refusal
past_values = out_of_spec (codes "offsets must not exceed the values length")

-- the last offset is not where the values end
abbrev pub not_at_end : Refusal
not_at_end = out_of_spec (codes "the last offset must equal the values length")
