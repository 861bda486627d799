-- Tables of both widths, and what commands do to them. The state is one list, the narrow entries, whose offsets are
-- of 32 bits, and then the wide ones, whose offsets are of 64; it is written as these two halves, each a table.
use Rattle.std.specs.Prelude.{◌≡◌, ⊤, ℕ, true, false, ◌&&◌, List, [], ◌∷◌, ◌++◌, map, Option, Some, None}
use Rattle.std.specs.Prelude.{option_and_then, if◌then◌else◌}
use Rattle.arrow_types.specs.declared.primitive_type.PrimitiveType.{PrimitiveType}
use Rattle.arrow_column.specs.Column.{with_type}
use Rattle.arrow_bytes.specs.Selection.{narrowing_overflows}
use Rattle.arrow_model.specs.declared.reply.Reply.{Reply}
use Rattle.arrow_model.specs.declared.command.BothCommand.{BothCommand}
use Rattle.arrow_model.specs.declared.command.BothCommand.TheVariants as command
use Rattle.arrow_model.specs.Kind.{is_frozen, is_var_binary}
use Rattle.arrow_model.specs.Answer.{Answer, answer_of}
use Rattle.arrow_model.specs.Value.{Value, TableState, Types, types, default_type}
use Rattle.arrow_model.specs.Request.{Request, as_request, IsRequest}
use Rattle.arrow_model.specs.Transition.{Transition, leaves, memory, require_some}
use Rattle.arrow_model.specs.Change.{with_column}
use Rattle.arrow_model.specs.Chosen.{bytes_column}
use Rattle.arrow_model.specs.Step.{IsStep, AtEntry, IntoEmpty, entry_at, unless_over}
use Rattle.arrow_model.specs.Run.{CostsAtMost, Runs}

-- both halves
pub record Both (T : Type 0) : Type 0 where
  pub narrow : TableState T
  pub wide : TableState T

-- what is asked: a command of one half; or that an array of a narrow entry be put into a wide one, or the other way
-- round
pub data BothRequest (T : Type 0) : Type 0 where
  narrow wide : Request T → BothRequest T
  widen narrow_to : ℕ → ℕ → BothRequest T

abbrev pub both_request : {T : Type 0} → BothCommand T → BothRequest T
both_request (command.Narrow asks) = narrow (as_request (λ offset. offset) asks)
both_request (command.Wide asks) = wide (as_request (λ offset. offset) asks)
both_request (command.Widen e f) = widen e f
both_request (command.NarrowTo e f) = narrow_to e f

-- one whose text is UTF-8, and whose kind exists
abbrev pub IsBothRequest : {T : Type 0} → BothRequest T → Type 0
IsBothRequest (narrow asks) = IsRequest asks
IsBothRequest (wide asks) = IsRequest asks
IsBothRequest _ = ⊤

-- what is asked of either half
abbrev pub narrow_of : {T : Type 0} → List (BothRequest T) → List (Request T)
narrow_of [] = []
narrow_of (narrow asks ∷ requests) = asks ∷ narrow_of requests
narrow_of (_ ∷ requests) = narrow_of requests

abbrev pub wide_of : {T : Type 0} → List (BothRequest T) → List (Request T)
wide_of [] = []
wide_of (wide asks ∷ requests) = asks ∷ wide_of requests
wide_of (_ ∷ requests) = wide_of requests

module _ {T : Type 0} where
  -- an array of bytes or text, where what stands in an entry is one
  abbrev pub items_in : Option (Value T) → Option (Value T)
  items_in = option_and_then (λ (v : Value T). if is_frozen v.shape && is_var_binary v.shape then Some v else None)

  -- the same slots and the same bytes around them, under the default type over other offsets
  abbrev pub with_offset_width : Types T → Value T → Value T
  with_offset_width c v = with_column v (with_type v.column (default_type c v.shape.value_kind))

  abbrev pub Widens : Types T → Option (Value T) → Transition T
  Widens c from = require_some None (items_in from) (λ v. memory None (leaves (with_offset_width c v)))

  abbrev pub Narrows : Types T → Option (Value T) → Transition T
  Narrows c from = require_some None (items_in from)
      (λ v. unless_over None (narrowing_overflows (bytes_column v.column))
      (memory None (leaves (with_offset_width c v))))

-- what is known of either width
module _ {T : Type 0} (zero : T) (primitive : PrimitiveType) where
  abbrev pub narrow_types : Types T
  narrow_types = types zero primitive 2147483647 false

  abbrev pub wide_types : Types T
  wide_types = types zero primitive 9223372036854775807 true

  -- one command: a step of one half, or a transition of an entry of one half, which is empty; the other half stays
  abbrev pub IsBothStep : Both T → BothRequest T → Answer T → Both T → Type 0
  IsBothStep old (narrow asks) reply new = IsStep narrow_types old.narrow asks reply new.narrow × (new.wide ≡ old.wide)
  IsBothStep old (wide asks) reply new = IsStep wide_types old.wide asks reply new.wide × (new.narrow ≡ old.narrow)
  IsBothStep old (widen e f) reply new =
      AtEntry old.wide.entries f (IntoEmpty (Widens wide_types (entry_at old.narrow.entries e))) reply new.wide.entries
      × (new.wide.cost ≡ old.wide.cost) × (new.narrow ≡ old.narrow)
  IsBothStep old (narrow_to e f) reply new =
      AtEntry old.narrow.entries f (IntoEmpty (Narrows narrow_types (entry_at old.wide.entries e))) reply
      new.narrow.entries
      × (new.narrow.cost ≡ old.narrow.cost) × (new.wide ≡ old.wide)

  -- a command and its reply: a step, with what it costs either half at most
  abbrev pub BothCommandStep : Both T → BothCommand T → Reply T → Both T → Type 0
  BothCommandStep old command reply new =
      IsBothStep old (both_request command) (answer_of reply) new
      × CostsAtMost (narrow_of (both_request command ∷ [])) old.narrow.cost new.narrow.cost
      × CostsAtMost (wide_of (both_request command ∷ [])) old.wide.cost new.wide.cost

  -- a list of commands, whose replies are appended to those that were there
  abbrev pub IsTablesRun : Both T → List (BothCommand T) → List (Reply T) → List (Reply T) → Both T → Type 0
  IsTablesRun tables commands before after new =
      (replies : List (Reply T)) × (after ≡ before ++ replies)
      × Runs IsBothStep tables (map both_request commands) (map answer_of replies) new
