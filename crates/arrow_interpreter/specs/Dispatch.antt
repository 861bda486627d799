-- The request of a line on the table of a width, by the length of the line's name.
use Rattle.std.specs.Prelude.{ℕ, Bool, ◌==◌, nat_le, nat_lt, List, Option, ℤ}
use Rattle.arrow_model.specs.Both.{BothRequest}
use Rattle.arrow_interpreter.specs.Replies.{on_table}
use Rattle.arrow_syntax.specs.Lines.{lines_over, named_request, numbered_request, with_length}
use Rattle.arrow_syntax.specs.Readers.{Reader}

-- Of a table: the greatest offset, whether its layouts are the large ones, and how words write its offsets.
module _ (most : ℕ) (is_large : Bool) (offset : List ℕ → Option ℤ) where
  -- a line by its name and the words behind it
  abbrev pub any_line : List ℕ → Reader (BothRequest ℤ)
  any_line name words = on_table is_large (named_request (lines_over most is_large offset) name words)

  -- a line whose name's length passes a test, by its name, its number, and the words behind that
  abbrev pub line_if : (ℕ → Bool) → List ℕ → ℕ → Reader (BothRequest ℤ)
  line_if passes name number words =
      on_table is_large (numbered_request (with_length passes (lines_over most is_large offset)) name number words)

  -- the same with a name of up to three letters, of four, five or six, or of more
  abbrev pub len_3_line : List ℕ → ℕ → Reader (BothRequest ℤ)
  len_3_line = line_if (λ n. nat_le n 3)

  abbrev pub len_4_line : List ℕ → ℕ → Reader (BothRequest ℤ)
  len_4_line = line_if (λ n. n == 4)

  abbrev pub len_5_line : List ℕ → ℕ → Reader (BothRequest ℤ)
  len_5_line = line_if (λ n. n == 5)

  abbrev pub len_6_line : List ℕ → ℕ → Reader (BothRequest ℤ)
  len_6_line = line_if (λ n. n == 6)

  abbrev pub len_7_line : List ℕ → ℕ → Reader (BothRequest ℤ)
  len_7_line = line_if (λ n. nat_lt 6 n)
