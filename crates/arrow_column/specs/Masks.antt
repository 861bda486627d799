-- How masks change with columns. Only private functions cite this, those of kernels too.
use Rattle.std.specs.Prelude.{⊤, ◌≡◌, ℕ, ◌+◌, ◌≤◌, Bool, true, false, List, ◌++◌, length, replicate, Option, Some, None}
use Rattle.std.specs.Prelude.{IfSome, MatchOption, if◌then◌else◌, option_map, unwrap_or}
use Rattle.std.specs.List.{list_all}
use Rattle.arrow_memory.specs.Changes.{cut_of}
use Rattle.arrow_column.specs.declared.mask.NewSlots.{NewSlots}
use Rattle.arrow_column.specs.declared.mask.NewSlots.TheVariants as new

-- the mask if one of its marks is clear, else none
abbrev pub mask_with_nulls : Option (List Bool) → Option (List Bool)
mask_with_nulls None = None
mask_with_nulls (Some marks) = if list_all (λ mark. mark) marks then None else Some marks

-- the marks of n slots by their mask: all set without one
abbrev pub marks_under : Option (List Bool) → ℕ → List Bool
marks_under mask n = unwrap_or mask (replicate n true)

-- the mask of m slots followed by n others, either of which may have none
abbrev pub joined_mask : Option (List Bool) → ℕ → Option (List Bool) → ℕ → Option (List Bool)
joined_mask None m None n = None
joined_mask (Some marks) m None n = Some (marks ++ replicate n true)
joined_mask None m (Some others) n = Some (replicate m true ++ others)
joined_mask (Some marks) m (Some others) n = Some (marks ++ others)

-- the mask of slots that are appended, where they have one
abbrev pub new_mask : NewSlots → Option (List Bool)
new_mask (new.Valid n) = None
new_mask (new.Null n) = Some (replicate n false)
new_mask (new.OfBuilder mask n) = mask.now
new_mask (new.OfArray mask a n) = option_map (cut_of a n) mask.now

-- their number
abbrev pub new_count : NewSlots → ℕ
new_count (new.Valid n) = n
new_count (new.Null n) = n
new_count (new.OfBuilder mask n) = n
new_count (new.OfArray mask a n) = n

-- their marks
abbrev pub new_marks : NewSlots → List Bool
new_marks slots = marks_under (new_mask slots) (new_count slots)

-- the mask of m slots followed by them
abbrev pub mask_with_new : Option (List Bool) → ℕ → NewSlots → Option (List Bool)
mask_with_new mask m slots = joined_mask mask m (new_mask slots) (new_count slots)

-- the mask of an array has marks for them
abbrev pub HasNewMarks : NewSlots → Type 0
HasNewMarks (new.Valid n) = ⊤
HasNewMarks (new.Null n) = ⊤
HasNewMarks (new.OfBuilder mask n) = ⊤
HasNewMarks (new.OfArray mask a n) = IfSome mask.now (λ marks. a + n ≤ length marks)

-- a mask is appended to marks, or without one as many set marks as there are slots
abbrev pub AppendsMask : ℕ → Option (List Bool) → List Bool → List Bool → Type 0
AppendsMask slots mask old new = MatchOption mask (new ≡ old ++ replicate slots true) (λ marks. new ≡ old ++ marks)
