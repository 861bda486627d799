-- Marks as the bits of words.
use Rattle.std.specs.Prelude.{◌≡◌, ◌+◌, ◌<◌, ◌==◌, ℕ, Bool, List, Some, slice_get}
use Rattle.std.specs.Int.{bit_at}
use Rattle.arrow_memory.specs.Marks.{block_mark, mark_at}

-- the n marks from index `place` on are the first n bits of a word, the least significant first
abbrev pub HoldsMarks : ℕ → List Bool → ℕ → ℕ → Type 0
HoldsMarks word marks place n = (k : ℕ) → k < n → slice_get marks (place + k) ≡ Some (bit_at word k == 1)

-- the 512 marks from index `place` on are the bits of eight words
abbrev pub HoldsBlock : List ℕ → List Bool → ℕ → Type 0
HoldsBlock words marks place = (k : ℕ) → k < 512 → slice_get marks (place + k) ≡ Some (block_mark words k)

-- the first n marks are those of bytes
abbrev pub HasMarks : List Bool → List ℕ → ℕ → Type 0
HasMarks truths bytes n = (k : ℕ) → k < n → slice_get truths k ≡ Some (mark_at bytes k)
