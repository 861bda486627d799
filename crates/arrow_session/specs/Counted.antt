-- Readers and writers that count their faults, and how the count grows.
use Rattle.std.specs.Prelude.{ℕ, ◌+◌, ◌-◌, ◌^◌, ◌<◌, min, Bool, true, ◌==◌, not, ◌&&◌, ◌||◌, if◌then◌else◌, List}
use Rattle.std.specs.Prelude.{◌≡◌, length, Result, Ok, Err}
use Rattle.arrow_session.specs.declared.counted.Counted.{Counted}

-- the number of faults so far
abbrev pub fault_count : {R : Type 0} → Counted R → ℕ
fault_count counted = counted.faults

-- whether a read found the end of the input, since the last session on it began
abbrev pub found_end : {R : Type 0} → Counted R → Bool
found_end counted = counted.has_ended

-- the reader or writer inside
abbrev pub inside : {R : Type 0} → Counted R → R
inside counted = counted.inner

-- the count after a call: one more if it was a fault, up to the greatest
abbrev pub count_after : Bool → ℕ → ℕ
count_after fault n = if fault then min (n + 1) (2 ^ 64 - 1) else n

-- whether a write of these bytes was a fault: it failed, or it took none of them
abbrev pub is_write_fault : {E : Type 0} → Result ℕ E → List ℕ → Bool
is_write_fault (Ok n) bytes = (n == 0) && not (length bytes == 0)
is_write_fault (Err e) bytes = true

-- whether a read into these bytes, or one before it, found the end of the input
abbrev pub found_after : {E : Type 0} → Result ℕ E → List ℕ → Bool → Bool
found_after (Ok n) bytes found = ((n == 0) && not (length bytes == 0)) || found
found_after (Err e) bytes found = found

-- a count grew, unless it was at its greatest
abbrev pub Rose : ℕ → ℕ → Type 0
Rose old new = old < 2 ^ 64 - 1 → old < new

-- a fault was counted, unless the count was at its greatest
abbrev pub Faulted : {R : Type 0} → Counted R → Counted R → Type 0
Faulted old new = Rose (fault_count old) (fault_count new)

-- the fact holds if no fault was counted, and one could be
abbrev pub UnlessFaulted : {R : Type 0} → Counted R → Counted R → Type 0 → Type 0
UnlessFaulted old new Fact = fault_count old < 2 ^ 64 - 1 → fault_count new ≡ fault_count old → Fact

-- the end of the input was found before, or is not found yet
abbrev pub KeepsEnd : {R : Type 0} → Counted R → Counted R → Type 0
KeepsEnd old new = found_end new ≡ found_end old
