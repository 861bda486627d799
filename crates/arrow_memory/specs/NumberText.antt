-- The text of lists of numbers, as of offsets.
use Rattle.std.specs.Prelude.{ℕ, ◌++◌, List, Option, Some, codes, map}
use Rattle.std.specs.Fmt.{◌++?◌, decimal}
use Rattle.arrow_types.specs.ListText.{list_text}

-- the text of each number
abbrev pub number_texts : List ℕ → List (Option (List ℕ))
number_texts numbers = map (λ n. Some (decimal n)) numbers

-- the numbers in brackets, behind the name of their type and a parenthesis
abbrev pub offsets_text : List ℕ → List ℕ → Option (List ℕ)
offsets_text name numbers = Some (name ++ codes "(") ++? list_text (number_texts numbers) ++? Some (codes ")")
