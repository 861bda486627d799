-- Transitions, and the words of which they are made: what a command may answer, and what the entry then is. If a
-- command's condition fails, the answer is `not_met` and nothing changes; otherwise the answer is another.
use Rattle.std.specs.Prelude.{◌≡◌, ◌⊎◌, Bool, Option, Some, None, MatchOption, MatchBool, option_and_then}
use Rattle.std.specs.Prelude.{if◌then◌else◌}
use Rattle.arrow_model.specs.Kind.{Shape}
use Rattle.arrow_model.specs.Answer.{Answer, done, not_met, is_memory}
use Rattle.arrow_model.specs.Value.{Value}

-- which answer comes, and what the entry then is
abbrev pub Transition : Type 0 → Type 1
Transition T = Answer T → Option (Value T) → Type 0

-- the answer is `given`, and the entry is then `kept`
abbrev pub gives : {T : Type 0} → Answer T → Option (Value T) → Transition T
gives given kept reply new = (reply ≡ given) × (new ≡ kept)

-- the answer is `done`, and the entry then holds this value
abbrev pub leaves : {T : Type 0} → Value T → Transition T
leaves kept = gives done (Some kept)

-- by a test, one transition or another
abbrev pub by_test : {T : Type 0} → Bool → Transition T → Transition T → Transition T
by_test test transition other reply new = MatchBool test (transition reply new) (other reply new)

-- a free choice: an answer of which `chosen` holds is allowed too, and the entry is then `kept`
abbrev pub or_else_keep : {T : Type 0} → (Answer T → Bool) → Option (Value T) → Transition T → Transition T
or_else_keep chosen kept transition reply new = MatchBool (chosen reply) (new ≡ kept) (transition reply new)

-- of an entry that was so before
module _ {T : Type 0} (old : Option (Value T)) where
  -- the condition fails: nothing changes
  abbrev pub unmet : Transition T
  unmet = gives not_met old

  -- the entry is as before, and this is answered
  abbrev pub answers : Answer T → Transition T
  answers given = gives given old

  -- the command may fail if an allocation fails; the entry is then as before
  abbrev pub memory : Transition T → Transition T
  memory = or_else_keep is_memory old

  -- the condition that `found` is `Some x`, for a transition of x
  abbrev pub require_some : {A : Type 0} → Option A → (A → Transition T) → Transition T
  require_some found transition reply new = MatchOption found (unmet reply new) (λ x. transition x reply new)

  -- the condition that a test holds
  abbrev pub where_true : Bool → Transition T → Transition T
  where_true test transition reply new = MatchBool test (transition reply new) (unmet reply new)

  -- the condition that something holds
  abbrev pub provided : Type 0 → Transition T → Transition T
  provided P transition reply new = (P × transition reply new) ⊎ ((P → ⊥) × unmet reply new)

  -- the condition that an entry of such a kind is there, for a transition of what it holds
  abbrev pub of_kind : (Shape → Bool) → (Value T → Transition T) → Transition T
  of_kind test = require_some (option_and_then (λ (v : Value T). if test v.shape then Some v else None) old)
