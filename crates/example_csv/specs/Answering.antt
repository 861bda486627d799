-- What the program answers.
use Rattle.std.specs.Prelude.{◌≡◌, ◌⊎◌, ℕ, Bool, true, List, if◌then◌else◌}
use Rattle.std.specs.Bool.{MatchBool}
use Rattle.example_record_batch.specs.Batches.{Batch}
use Rattle.example_csv.specs.declared.error.Error.{Error}
use Rattle.example_csv.specs.declared.options.Options.{Options}
use Rattle.example_csv.specs.Aligned.{CannotWrite, aligned_text}
use Rattle.example_csv.specs.Reading.{IsRefused, IsTableOfText}
use Rattle.example_csv.specs.Steps.{CannotSelect, IsSelected}
use Rattle.example_csv.specs.Summary.{CannotSummarize, IsSummary}
use Rattle.example_csv.specs.Text.{CannotWriteCsv, csv_text}

-- the text of a table
abbrev pub table_text : Options → Batch → List ℕ
table_text options table = if options.table then aligned_text table else csv_text table

-- the table that is printed of another: the rows and columns that are selected, or a summary of them
abbrev pub IsAskedOf : Options → Batch → Batch → Type 0
IsAskedOf options table asked = (shown : Batch) × IsSelected options table shown
    × MatchBool options.summary (IsSummary shown asked) (asked ≡ shown)

-- the table that is printed for a CSV text
abbrev pub IsAsked : Options → List ℕ → Batch → Type 0
IsAsked options text asked = (table : Batch) × IsTableOfText text table × IsAskedOf options table asked

-- why there is no table to print: the text is refused, nothing is selected, or the summary cannot be made
abbrev pub CannotAsk : Options → List ℕ → Error → Type 0
CannotAsk options text e = IsRefused text e
    ⊎ ((table : Batch) × IsTableOfText text table × CannotSelect options table e)
    ⊎ ((options.summary ≡ true) × CannotSummarize e)

-- why a table is not written
abbrev pub CannotPrint : Options → Error → Type 0
CannotPrint options e = MatchBool options.table (CannotWrite e) (CannotWriteCsv e)

-- what is written is the text of the table that is printed for a CSV text
abbrev pub Prints : Options → (List ℕ → Type 0) → List ℕ → Type 0
Prints options Writes text = (asked : Batch) × IsAsked options text asked × Writes (table_text options asked)
