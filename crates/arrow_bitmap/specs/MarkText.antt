-- The text of lists of marks: their bytes as binary numbers, the first mark of each the last digit.
use Rattle.std.specs.Prelude.{ℕ, ◌+◌, ◌-◌, ◌*◌, ◌++◌, Bool, true, false, List, length, map, slice_get, codes}
use Rattle.std.specs.Prelude.{Option, Some, None}
use Rattle.std.specs.Int.{div_ceil}
use Rattle.std.specs.List.{range_with_len}
use Rattle.arrow_types.specs.ListText.{list_text}

-- the digit of a mark, and `_` where there is none
abbrev pub mark_digit : Option Bool → ℕ
mark_digit None = 95
mark_digit (Some true) = 49
mark_digit (Some false) = 48

-- the digits of the eight marks of a byte, the last first, of which the first n
abbrev pub byte_digits : List Bool → ℕ → ℕ → List ℕ
byte_digits marks i n = map (λ k. mark_digit (slice_get marks (8 * i + 7 - k))) (range_with_len 0 n)

abbrev pub byte_text : List Bool → ℕ → List ℕ
byte_text marks i = codes "0b" ++ byte_digits marks i 8

-- the text of each byte
abbrev pub byte_texts : List Bool → List (Option (List ℕ))
byte_texts marks = map (λ i. Some (byte_text marks i)) (range_with_len 0 (div_ceil (length marks) 8))

-- the bytes in brackets, as `[0b10110001, 0b______01]`
abbrev pub marks_text : List Bool → Option (List ℕ)
marks_text marks = list_text (byte_texts marks)
