-- Runs of requests on the tables of a session, and the text of their replies.
use Rattle.std.specs.Prelude.{◌≡◌, List, [], ◌∷◌, ◌++◌, ℕ, ℤ, pos, Bool, IsTrue, Option}
use Rattle.std.specs.Prelude.{is_some, option_map, string_bytes}
use Rattle.std.specs.Option.{option_to_list}
use Rattle.arrow_types.specs.declared.primitive_type.PrimitiveType.TheVariants.{Int64}
use Rattle.arrow_model.specs.Answer.{Answer}
use Rattle.arrow_model.specs.Both.{Both, BothRequest, IsBothStep}
use Rattle.arrow_model.specs.Request.{Request}
use Rattle.arrow_model.specs.Value.{empty_table}
use Rattle.arrow_model.specs.Run.{Runs}
use Rattle.arrow_interpreter.specs.declared.interpreter.Interpreter.{Interpreter}
use Rattle.arrow_syntax.specs.Text.{AppendsText, answers_text}
use Rattle.arrow_table.specs.Width.{on_width}

-- the tables that the program begins with
abbrev pub at_first : Both ℤ
at_first = record { narrow = empty_table 16; wide = empty_table 16 }

-- a run of requests, with an answer for each, from some tables to others; native values are integers of 64 bits
abbrev pub IsProgramRun : Both ℤ → List (BothRequest ℤ) → List (Answer ℤ) → Both ℤ → Type 0
IsProgramRun = Runs (IsBothStep (pos 0) Int64)

-- these requests were run, and the text of their answers was appended
abbrev pub AppendsAnswers : List (BothRequest ℤ) → Both ℤ → Both ℤ → List ℕ → List ℕ → Type 0
AppendsAnswers requests old new before after =
    (answers : List (Answer ℤ)) × IsProgramRun old requests answers new × (after ≡ before ++ answers_text answers)

-- the same of an interpreter
abbrev pub RunsRequests : List (BothRequest ℤ) → Interpreter → Interpreter → Type 0
RunsRequests requests old new =
    AppendsAnswers requests old.tables new.tables (string_bytes old.text) (string_bytes new.text)

-- the same of one request
abbrev pub RunsRequest : BothRequest ℤ → Interpreter → Interpreter → Type 0
RunsRequest request = RunsRequests (request ∷ [])

-- the text of an answer was appended, and the tables stay
abbrev pub AppendsAnswer : Answer ℤ → Interpreter → Interpreter → Type 0
AppendsAnswer answer old new = (new.tables ≡ old.tables) × AppendsText old.text new.text (answers_text (answer ∷ []))

-- the request of a line of the table of a width, on both tables
abbrev pub on_table : Bool → Option (Request ℤ) → Option (BothRequest ℤ)
on_table is_large request = option_map (on_width is_large) request

-- the words are a line if they make a request; it was then run and its reply appended
abbrev pub RunsLine : Option (BothRequest ℤ) → Interpreter → Interpreter → Bool → Type 0
RunsLine request old new is_line =
    (is_some request ≡ is_line) × (IsTrue is_line → RunsRequests (option_to_list request) old new)
