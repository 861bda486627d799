-- Marks that are counted as the bits of words.
use Rattle.std.specs.Prelude.{ℕ, List}
use Rattle.std.specs.Int.Count.{ones}
use Rattle.std.specs.List.{sum_by}

-- how many marks of words are set
abbrev pub block_set : List ℕ → ℕ
block_set words = sum_by ones words
