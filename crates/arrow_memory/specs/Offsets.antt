-- Offsets: n slots have n + 1 of them, and slot i is the bytes from offset i up to offset i + 1
-- (Arrow columnar format, "Variable-size Binary Layout").
use Rattle.std.specs.Prelude.{◌≡◌, ℕ, ◌+◌, ◌-◌, ◌<◌, ◌≤◌, ℤ, pos, Bool, false, ◌||◌, List, [], ◌∷◌, ◌++◌, length, map}
use Rattle.std.specs.Prelude.{take, drop, slice_index, slice_range, Option, Some, None, MatchOption, codes}
use Rattle.std.specs.Prelude.{if◌then◌else◌}
use Rattle.std.specs.Prelude.{int_lt, unsigned_abs}
use Rattle.arrow_types.specs.declared.error.Error.{Error}
use Rattle.arrow_types.specs.declared.error.Error.TheVariants as error

-- the first offset: how many bytes lie before the first slot
abbrev pub first_of : List ℕ → ℕ
first_of offsets = slice_index offsets 0

-- the last offset: where the last slot ends
abbrev pub last_of : List ℕ → ℕ
last_of offsets = slice_index offsets (length offsets - 1)

-- no offset is below one before it
abbrev pub NeverFalls : List ℕ → Type 0
NeverFalls offsets = (i j : ℕ) → i ≤ j → j < length offsets → slice_index offsets i ≤ slice_index offsets j

-- legal offsets: at least one, and they never fall; as whole numbers from 0 on they are not negative
pub record IsOffsets (offsets : List ℕ) : Type 0 where
  pub some : 0 < length offsets
  pub order : NeverFalls offsets

-- whether one of these integers, which follow x, is below the one before it
abbrev pub falls_after : ℤ → List ℤ → Bool
falls_after x [] = false
falls_after x (y ∷ ys) = int_lt y x || falls_after y ys

-- which rule of offsets integers break first, in the words of its refusal; none where they are legal
abbrev pub first_fault : List ℤ → Option (List ℕ)
first_fault [] = Some (codes "offsets must have at least one element")
first_fault (x ∷ xs) =
    if int_lt x (pos 0) then Some (codes "the first offset must not be negative")
    else (if falls_after x xs then Some (codes "offsets must never fall") else None)

-- the offsets that a file means by these: it may have none if there is no slot, and means the one offset 0 then
abbrev pub file_offsets : List ℤ → List ℤ
file_offsets [] = pos 0 ∷ []
file_offsets (x ∷ xs) = x ∷ xs

-- the numbers of values of an offset type; number is the number of a value
abbrev pub numbers_of : {O : Type 0} → (O → ℤ) → List O → List ℕ
numbers_of number values = map unsigned_abs (map number values)

-- values of an offset type whose numbers are legal offsets; most is the type's greatest number
pub record KeepsOffsets {O : Type 0} (number : O → ℤ) (most : ℕ) (values : List O) : Type 0 where
  pub whole : map number values ≡ map pos (numbers_of number values)
  pub legal : IsOffsets (numbers_of number values)
  pub within : last_of (numbers_of number values) ≤ most

-- the ends of another's slots, moved to follow an offset
abbrev pub moved_behind : ℕ → List ℕ → List ℕ
moved_behind last other = map (λ offset. last + (offset - first_of other)) (drop 1 other)

-- the ends of another's slots, given as values of an offset type, moved to follow an offset
abbrev pub ends_behind : {O : Type 0} → (O → ℤ) → ℕ → List O → List ℕ
ends_behind number last other = moved_behind last (numbers_of number other)

-- the length of all slots together: the distance from the first offset to the last
abbrev pub extent : List ℕ → ℕ
extent offsets = last_of offsets - first_of offsets

-- the window: the bytes of all slots, from the first offset up to the last
abbrev pub window_of : List ℕ → List ℕ → List ℕ
window_of offsets bytes = slice_range bytes (first_of offsets) (last_of offsets)

-- the offsets of `count` slots, from slot `first` on
abbrev pub slots_from : ℕ → ℕ → List ℕ → List ℕ
slots_from first count offsets = take (count + 1) (drop first offsets)

-- the offsets of the slots from one up to another
abbrev pub slots_to : ℕ → ℕ → List ℕ → List ℕ
slots_to first end offsets = slots_from first (end - first) offsets

-- where the last slot ends once the slots of other offsets are appended
abbrev pub joined_end : List ℕ → List ℕ → ℕ
joined_end offsets other = last_of offsets + extent other

-- the end of a slot of this length is appended; it is at most the greatest offset
abbrev pub AppendsEnd : ℕ → List ℕ → ℕ → List ℕ → Type 0
AppendsEnd most old slot new = (last_of old + slot ≤ most) × (new ≡ old ++ (last_of old + slot) ∷ [])

-- the slots of other offsets are appended; the last of them ends at most at the greatest offset
abbrev pub AppendsOffsets : ℕ → List ℕ → List ℕ → List ℕ → Type 0
AppendsOffsets most old other new = (joined_end old other ≤ most) × (new ≡ old ++ moved_behind (last_of old) other)

-- the ends of other slots are appended to values of an offset type, whose last number is `last`
abbrev pub AppendsValues : {O : Type 0} → (O → ℤ) → ℕ → ℕ → List O → List O → List O → Type 0
AppendsValues number most last old other new =
    KeepsOffsets number most new × (numbers_of number new ≡ numbers_of number old ++ ends_behind number last other)

-- the ends of some other slots, from slot `from` up to slot `to`, are appended in the same way
abbrev pub AppendsEnds : {O : Type 0} → (O → ℤ) → ℕ → List O → ℕ → ℕ → List O → List O → Type 0
AppendsEnds number last other from to old new =
    map number new ≡ map number old ++ map pos (slice_range (ends_behind number last other) from to)

-- the last offset is removed and returned; the first stays, since it ends no slot
abbrev pub PopsOffset : {O : Type 0} → (O → ℤ) → List ℕ → Option O → List ℕ → Type 0
PopsOffset number old popped new = MatchOption popped ((length old ≡ 1) × (new ≡ old)) (λ offset. (1 < length old)
    × (number offset ≡ pos (last_of old)) × (new ≡ take (length old - 1) old))

-- why a growth was refused: an offset would pass the greatest number, or else memory
abbrev pub MatchGrowth : Error → Type 0 → Type 0 → Type 0
MatchGrowth (error.OutOfSpec _) Over Within = ⊥
MatchGrowth error.Overflow Over Within = Over
MatchGrowth error.OutOfMemory Over Within = Within

-- why a slot's end was refused: it is above the greatest offset, or else an allocation failed
abbrev pub EndRefused : Error → ℕ → ℕ → Type 0
EndRefused e most end = MatchGrowth e (most < end) (end ≤ most)
