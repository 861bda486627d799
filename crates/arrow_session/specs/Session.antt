-- Sessions: the input that is read, the commands that are run, and the replies that are written.
use Rattle.std.specs.Prelude.{◌≡◌, ℕ, ◌⊎◌, List, [], ◌++◌, ℤ, codes, decimal, IfSome, Option, Some}
use Rattle.std.specs.Io.{StartsWith}
use Rattle.arrow_session.specs.Counted.{inside}
use Rattle.arrow_session.specs.declared.counted.Counted.{Counted}
use Rattle.arrow_session.specs.declared.outcome.Outcome.{Outcome}
use Rattle.arrow_session.specs.declared.outcome.Outcome.TheVariants as outcome
use Rattle.arrow_model.specs.Answer.{Answer}
use Rattle.arrow_model.specs.Both.{Both, BothRequest}
use Rattle.arrow_interpreter.specs.Replies.{IsProgramRun, at_first}
use Rattle.arrow_syntax.specs.Lines.{requests, bad_line, commands_of}
use Rattle.arrow_syntax.specs.Text.{answers_text}

-- the input is a list of commands, and the text is that of the replies of a run of all of them from 16 empty entries of
-- each width
abbrev pub IsAnswer : List ℕ → List ℕ → Type 0
IsAnswer input text =
    (commands : List (BothRequest ℤ)) × (replies : List (Answer ℤ)) × (final : Both ℤ)
    × (commands_of input ≡ requests commands)
    × IsProgramRun at_first commands replies final
    × (text ≡ answers_text replies)

-- each line of the input is a command or passed over
abbrev pub AreCommands : List ℕ → Type 0
AreCommands input = (commands : List (BothRequest ℤ)) × (commands_of input ≡ requests commands)

-- why an input has no answer: a line is not a command, or all are and an allocation failed
abbrev pub IsStop : List ℕ → Outcome → Type 0
IsStop input outcome.Done = ⊥
IsStop input (outcome.BadLine n) = commands_of input ≡ bad_line n
IsStop input outcome.Device = ⊥
IsStop input outcome.Memory = AreCommands input

-- Of a session: the input, its rest, and the bytes of the writer before and after.
module _ (input : List ℕ) (left : Option (List ℕ)) (old : List ℕ) (new : Option (List ℕ)) where
  -- the input was read to its end
  abbrev pub IsRead : Type 0
  IsRead = left ≡ Some []

  -- nothing was written
  abbrev pub IsSilent : Type 0
  IsSilent = new ≡ Some old

  -- the answer to the whole input was written
  abbrev pub IsAnswered : Type 0
  IsAnswered = IsRead × (text : List ℕ) × IsAnswer input text × (new ≡ Some (old ++ text))

  -- a beginning of the answer to the whole input was written
  abbrev pub IsBegun : Type 0
  IsBegun = IsRead × (text front : List ℕ) × IsAnswer input text × StartsWith text front × (new ≡ Some (old ++ front))

  -- the facts of each outcome
  abbrev pub Ends : Outcome → Type 0
  Ends outcome.Done = IsAnswered
  Ends (outcome.BadLine n) = IsRead × (commands_of input ≡ bad_line n) × IsSilent
  Ends outcome.Device = IsSilent ⊎ IsBegun
  Ends outcome.Memory = IsSilent

-- the facts of an outcome, if the bytes of the reader and of the writer are known
abbrev pub EndsKnown : {R W : Type 0} → (R → Option (List ℕ)) → (W → Option (List ℕ)) → Counted R → Counted R
    → Counted W → Counted W → Outcome → Type 0
EndsKnown remaining contents input rest output written outcome =
    IfSome (remaining (inside input)) (λ bytes. IfSome (contents (inside output)) (λ old.
    Ends bytes (remaining (inside rest)) old (contents (inside written)) outcome))

-- the exit status of the program
abbrev pub status_of : Outcome → ℕ
status_of outcome.Done = 0
status_of (outcome.BadLine n) = 2
status_of outcome.Device = 1
status_of outcome.Memory = 1

-- the message of an outcome
abbrev pub outcome_text : Outcome → List ℕ
outcome_text outcome.Done = []
outcome_text (outcome.BadLine n) = codes "line " ++ decimal n ++ codes ": not a command"
outcome_text outcome.Device = codes "device fault"
outcome_text outcome.Memory = codes "out of memory"
