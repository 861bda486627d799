-- Three pieces: the items that offsets cut out of bytes, the bytes before the first of them, and the bytes after
-- the last (Arrow columnar format, "Variable-size Binary Layout").
use Rattle.std.specs.Prelude.{ℕ, ◌+◌, List, [], ◌∷◌, ◌++◌, length, take, drop, slice_index}
use Rattle.std.specs.Prelude.{slice_range}
use Rattle.std.specs.List.{concat}
use Rattle.arrow_memory.specs.Offsets.{first_of, last_of}

-- the items that end at each of these offsets, the first of which begins at start
abbrev pub items_after : {X : Type 0} → ℕ → List ℕ → List X → List (List X)
items_after start [] xs = []
items_after start (end ∷ ends) xs = slice_range xs start end ∷ items_after end ends xs

-- the items: what lies from each offset up to the next; of bytes these are the slots of a byte array, of the rows of
-- an array those of a list array
abbrev pub items_of : {X : Type 0} → List ℕ → List X → List (List X)
items_of [] xs = []
items_of (start ∷ ends) xs = items_after start ends xs

-- what lies from offset i up to the next
abbrev pub item_from : {X : Type 0} → List ℕ → List X → ℕ → List X
item_from offsets xs i = slice_range xs (slice_index offsets i) (slice_index offsets (i + 1))

-- what lies before the first item
abbrev pub lead_of : List ℕ → List ℕ → List ℕ
lead_of offsets bytes = take (first_of offsets) bytes

-- what lies after the last item
abbrev pub tail_of : List ℕ → List ℕ → List ℕ
tail_of offsets bytes = drop (last_of offsets) bytes

-- where these items end, one after the other, from start on
abbrev pub ends_after : ℕ → List (List ℕ) → List ℕ
ends_after start [] = []
ends_after start (item ∷ items) = (start + length item) ∷ ends_after (start + length item) items

-- the way back: the offsets of these items after `start` bytes
abbrev pub offsets_of : ℕ → List (List ℕ) → List ℕ
offsets_of start items = start ∷ ends_after start items

-- and the bytes of the three pieces
abbrev pub bytes_of : List ℕ → List (List ℕ) → List ℕ → List ℕ
bytes_of lead items tail = lead ++ (concat items ++ tail)
