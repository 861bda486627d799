-- What private functions do to marks: writes to packed bytes, and the last mark that is taken.
use Rattle.std.specs.Prelude.{◌≡◌, ◌+◌, ◌*◌, ◌++◌, ◌<◌, ◌≤◌, ℕ, Bool, true, false, List, [], ◌∷◌, Option, Some, None}
use Rattle.std.specs.Prelude.{IsSomeAnd, count_by, length, not, slice_index_or}
use Rattle.arrow_bitmap.specs.Marks.{mark_at, marks}

-- the marks from index `start` up to `end` are this value, and every other mark is unchanged
pub record FillsMarks (old new : List ℕ) (start end : ℕ) (value : Bool) : Type 0 where
  pub inside : (i : ℕ) → start ≤ i → i < end → mark_at new i ≡ value
  pub below : (i : ℕ) → i < start → mark_at new i ≡ mark_at old i
  pub above : (i : ℕ) → end ≤ i → mark_at new i ≡ mark_at old i

-- the last mark was taken from the marks, where there are any; without marks every slot is valid
abbrev pub TakesLastMark : Option (List Bool) → Option (List Bool) → Bool → Type 0
TakesLastMark None new mark = (new ≡ None) × (mark ≡ true)
TakesLastMark (Some marks) new mark = IsSomeAnd new (λ rest. marks ≡ rest ++ mark ∷ [])

-- how many of the n marks from index `place` on are clear
abbrev pub clear_count : List ℕ → ℕ → ℕ → ℕ
clear_count bytes place n = count_by not (marks bytes place n)

-- every mark of the bytes stays where it is
abbrev pub KeepsMarks : List ℕ → List ℕ → Type 0
KeepsMarks old new = (i : ℕ) → i < 8 * length old → mark_at new i ≡ mark_at old i

-- bytes stay, followed by n marks of two lists, from an index on, that are combined one by one
pub record AppendsCombined (op : Bool → Bool → Bool) (first second : List Bool) (from n : ℕ) (old new : List ℕ) : Type 0
  where
    pub kept : KeepsMarks old new
    pub added : (k : ℕ) → k < n → mark_at new (8 * length old + k)
        ≡ op (slice_index_or first (from + k) false) (slice_index_or second (from + k) false)

-- bytes stay, followed by all marks of two lists, combined one by one
abbrev pub AppendsAll : (Bool → Bool → Bool) → List Bool → List Bool → List ℕ → List ℕ → Type 0
AppendsAll op first second old new = AppendsCombined op first second 0 (length first) old new

-- bytes up to one stay, and the n marks from its first bit on are those of two lists, combined one by one
pub record WritesCombined (op : Bool → Bool → Bool) (first second : List Bool) (from n : ℕ) (old new : List ℕ) : Type 0
  where
    pub kept : (i : ℕ) → i < 8 * from → mark_at new i ≡ mark_at old i
    pub written : (k : ℕ) → k < n → mark_at new (8 * from + k)
        ≡ op (slice_index_or first k false) (slice_index_or second k false)

-- the first n marks of bytes stay, followed by other marks
abbrev pub ExtendsMarks : List ℕ → List ℕ → ℕ → List Bool → Type 0
ExtendsMarks old new n more = marks new 0 (n + length more) ≡ marks old 0 n ++ more
