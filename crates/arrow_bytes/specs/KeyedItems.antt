-- Keys that are indexes of a list.
use Rattle.std.specs.Prelude.{◌<◌, ◌^◌, ℕ, All, List, length, pos}
use Rattle.std.specs.List.{range_with_len}
use Rattle.std.specs.List.Sorted.{IsPermutation}
use Rattle.arrow_bytes.specs.Selection.{at_keys}

-- the elements at keys that are natural numbers
abbrev pub at_indexes : {X : Type 0} → List ℕ → List X → List X
at_indexes keys xs = at_keys (λ key. pos key) keys xs

-- every key is an index of a list that fits in memory; and each index is there once
abbrev pub AreIndexesOf : {X : Type 0} → List X → List ℕ → Type 0
AreIndexesOf xs keys = (length xs < 2 ^ 64) × All (λ key. key < length xs) keys

abbrev pub PermuteIndexes : {X : Type 0} → List X → List ℕ → Type 0
PermuteIndexes xs keys = (length xs < 2 ^ 64) × IsPermutation (range_with_len 0 (length xs)) keys
