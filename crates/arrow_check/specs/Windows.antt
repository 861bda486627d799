-- Which windows of bytes a text check accepts: the bytes from the first offset up to the last, and where the offsets
-- between these stand.
use Rattle.std.specs.Prelude.{◌≡◌, ℕ, ◌+◌, ◌-◌, ◌<◌, ◌≤◌, ◌⊎◌, List, length, slice_index}
use Rattle.std.specs.Prelude.{take, drop, count_by, nat_lt}
use Rattle.std.specs.Int.{IsInRange}
use Rattle.std.specs.Str.{IsAscii}
use Rattle.arrow_memory.specs.Offsets.{last_of}
-- the bytes from the first offset up to the last
pub use Rattle.arrow_memory.specs.Offsets.{window_of}
use Rattle.arrow_check.specs.Reading.{Reading, LooksAtMost, after_ascii, after_looks, after_whole_test}

-- a byte that goes on with a character, and begins none (Unicode Standard, Table 3-7)
abbrev pub IsContinuation : ℕ → Type 0
IsContinuation = IsInRange 0x80 0xBF

-- an offset cuts no character of a window with this end: it is the end, or a character may begin at its byte
abbrev pub CutsBetween : ℕ → List ℕ → ℕ → Type 0
CutsBetween end bytes offset = (offset ≡ end) ⊎ (¬ IsContinuation (slice_index bytes offset))

-- the inner offsets, which are all but the first and the last, cut no character
abbrev pub InnerCutBetween : List ℕ → List ℕ → Type 0
InnerCutBetween offsets bytes = (i : ℕ) → 0 < i → i + 1 < length offsets
    → CutsBetween (last_of offsets) bytes (slice_index offsets i)

-- a character may begin at each of the offsets from one index up to another
abbrev pub AllBegin : ℕ → ℕ → List ℕ → List ℕ → Type 0
AllBegin from upto offsets bytes = (i : ℕ) → from ≤ i → i < upto
    → ¬ IsContinuation (slice_index bytes (slice_index offsets i))

-- the offsets from one index up to another lie before an end
abbrev pub LieBefore : ℕ → ℕ → ℕ → List ℕ → Type 0
LieBefore from upto end offsets = (i : ℕ) → from ≤ i → i < upto → slice_index offsets i < end

-- the inner offsets from one index on are the end
abbrev pub LieAt : ℕ → ℕ → List ℕ → Type 0
LieAt from end offsets = (i : ℕ) → from ≤ i → i + 1 < length offsets → slice_index offsets i ≡ end

-- the offsets lie within the bytes, a judge accepts their window, and the inner ones cut no character of it
pub record PassesWhole (Accepts : List ℕ → Type 0) (offsets bytes : List ℕ) : Type 0 where
  pub within : last_of offsets ≤ length bytes
  pub window : Accepts (window_of offsets bytes)
  pub inner : InnerCutBetween offsets bytes

-- the inner offsets: all but the first and the last
abbrev pub inner_of : List ℕ → List ℕ
inner_of offsets = take (length offsets - 2) (drop 1 offsets)

-- how many inner offsets lie before the window's end
abbrev pub inner_before_end : List ℕ → ℕ
inner_before_end offsets = count_by (λ offset. nat_lt offset (last_of offsets)) (inner_of offsets)

-- after one test whether bytes are UTF-8, and one look for each inner offset before the window's end
abbrev pub after_cut_test : List ℕ → Reading → Reading
after_cut_test offsets r = after_looks (inner_before_end offsets) (after_whole_test r)

-- if the window is not accepted, the test of it is all that is read
abbrev pub StopsAtWindow : (List ℕ → Type 0) → List ℕ → Reading → Reading → Type 0
StopsAtWindow accepts offsets old new = ¬ accepts (window_of offsets old.bytes) → new ≡ after_whole_test old

-- if the window of offsets within the bytes is not accepted, one ASCII test and the test of it are all that is read
abbrev pub StopsAfterAscii : (List ℕ → Type 0) → List ℕ → Reading → Reading → Type 0
StopsAfterAscii accepts offsets old new = last_of offsets ≤ length old.bytes
    → ¬ accepts (window_of offsets old.bytes) → new ≡ after_whole_test (after_ascii old)

-- what a check of offsets reads: nothing if the last of them is past the bytes; a window that is ASCII by one test;
-- any other window by a second test, and the byte at each inner offset once at most. If the offsets pass, each inner
-- offset before the window's end was looked at
pub record ReadsOnce (Passes : Type 0) (offsets : List ℕ) (old new : Reading) : Type 0 where
  pub past : length old.bytes < last_of offsets → new ≡ old
  pub ascii : last_of offsets ≤ length old.bytes → IsAscii (window_of offsets old.bytes) → new ≡ after_ascii old
  pub other : last_of offsets ≤ length old.bytes → ¬ IsAscii (window_of offsets old.bytes)
      → LooksAtMost (length offsets - 2) (after_whole_test (after_ascii old)) new
  pub passed : Passes → ¬ IsAscii (window_of offsets old.bytes)
      → new ≡ after_looks (inner_before_end offsets) (after_whole_test (after_ascii old))

-- what a check of offsets reads, for a test of offsets and bytes
abbrev pub ReadsOnceFor : (List ℕ → List ℕ → Type 0) → List ℕ → Reading → Reading → Type 0
ReadsOnceFor passes offsets old new = ReadsOnce (passes offsets old.bytes) offsets old new
