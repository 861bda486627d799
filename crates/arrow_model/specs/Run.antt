-- What a list of commands does: one step after the other; and what its tests of text cost in all.
use Rattle.std.specs.Prelude.{◌≡◌, ℕ, ℤ, ◌+◌, ◌-◌, Bool, true, false, List, [], ◌∷◌, ◌++◌, length, map, if◌then◌else◌}
use Rattle.arrow_check.specs.Reading.{Cost, RisesAtMost}
use Rattle.arrow_model.specs.declared.command.Command.{Command}
use Rattle.arrow_model.specs.declared.reply.Reply.{Reply}
use Rattle.arrow_model.specs.Kind.{is_text}
use Rattle.arrow_model.specs.Request.{Request, as_request, make, parts, cut_pieces}
use Rattle.arrow_model.specs.Answer.{Answer, answer_of}
use Rattle.arrow_model.specs.Value.{TableState, Types, NativeMembers, OffsetMembers, types_of}
use Rattle.arrow_model.specs.Step.{IsStep}

-- commands, with a reply for each, lead from one state to another by such steps
abbrev pub Runs : {S C A : Type 0} → (S → C → A → S → Type 0) → S → List C → List A → S → Type 0
Runs Step state [] [] new = new ≡ state
Runs Step state [] (reply ∷ replies) new = ⊥
Runs Step state (command ∷ commands) [] new = ⊥
Runs {S} Step state (command ∷ commands) (reply ∷ replies) new = (next : S) × Step state command reply next
    × Runs Step next commands replies new

module _ {T : Type 0} (c : Types T) where
  -- commands, with an answer for each, lead from one table to another
  abbrev pub IsRun : TableState T → List (Request T) → List (Answer T) → TableState T → Type 0
  IsRun = Runs (IsStep c)

-- commands lead from one state to another by such steps, and the replies are appended to those that were there
abbrev pub RunAppends : {S C A : Type 0} → (S → C → A → S → Type 0) → S → List C → List A → List A → S → Type 0
RunAppends {S} {C} {A} Step old commands before after new =
    (replies : List A) × (after ≡ before ++ replies) × Runs Step old commands replies new

-- only raw parts are tested
abbrev pub is_parts : {T : Type 0} → Request T → Bool
is_parts (make e s (parts t raw mask)) = true
is_parts _ = false

-- how many texts a command may test, and how many offsets stand between their slots
abbrev pub tested_texts : {T : Type 0} → Request T → ℕ
tested_texts (make e s (parts t (cut_pieces numbers bytes) mask)) = if is_text s then 1 else 0
tested_texts _ = 0

abbrev pub inner_offsets : {T : Type 0} → Request T → ℕ
inner_offsets (make e s (parts t (cut_pieces numbers bytes) mask)) = if is_text s then length numbers - 2 else 0
inner_offsets _ = 0

-- the sum over a list of commands
abbrev pub sum_over : {T : Type 0} → (Request T → ℕ) → List (Request T) → ℕ
sum_over measure [] = 0
sum_over measure (command ∷ commands) = measure command + sum_over measure commands

-- what a list of commands costs at most: of each text's parts one test whether bytes are ASCII, one test whether they
-- are UTF-8, and one look for each offset between two slots
pub record CostsAtMost {T : Type 0} (commands : List (Request T)) (old new : Cost) : Type 0 where
  pub ascii : RisesAtMost (sum_over tested_texts commands) old.ascii_tests new.ascii_tests
  pub whole : RisesAtMost (sum_over tested_texts commands) old.whole_tests new.whole_tests
  pub looked : RisesAtMost (sum_over inner_offsets commands) old.bytes_looked new.bytes_looked

-- what a command does to a table, with what it costs at most
abbrev pub CostedStep : {T O : Type 0} → Types T → (O → ℤ) → TableState T → Command T O → Reply T → TableState T → Type 0
CostedStep c number old command reply new =
    IsStep c old (as_request number command) (answer_of reply) new
    × CostsAtMost (as_request number command ∷ []) old.cost new.cost

-- the same in a contract; and what a list of commands does, whose replies are appended to those that were there
module _ {T O : Type 0} (natives : NativeMembers T) (offset : OffsetMembers O) where
  abbrev pub CommandStep : TableState T → Command T O → Reply T → TableState T → Type 0
  CommandStep = CostedStep (types_of natives offset) offset.number

  abbrev pub IsTableRun : TableState T → List (Command T O) → List (Reply T) → List (Reply T) → TableState T → Type 0
  IsTableRun table commands before after new =
      (replies : List (Reply T)) × (after ≡ before ++ replies)
      × IsRun (types_of natives offset) table (map (as_request offset.number) commands) (map answer_of replies) new
