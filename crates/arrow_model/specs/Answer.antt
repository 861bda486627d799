-- Replies, apart from where their items lie.
use Rattle.std.specs.Prelude.{ℕ, Bool, true, false, List, map, Option, Result, Ok, Err}
use Rattle.arrow_types.specs.declared.error.Error.{Error}
use Rattle.arrow_types.specs.Types.{LogicalType, logical_type, Refusal, refusal, out_of_memory}
use Rattle.arrow_model.specs.declared.reply.Reply.{Reply}
use Rattle.arrow_model.specs.declared.reply.Reply.TheVariants as reply
use Rattle.arrow_model.specs.Item.{Stored, stored_slot}

-- what a table answers
pub data Answer (T : Type 0) : Type 0 where
  done not_met not_given left right : Answer T
  number : ℕ → Answer T
  flag : Bool → Answer T
  slot : Option (Stored T) → Answer T
  slots : List (Option (Stored T)) → Answer T
  numbers : List ℕ → Answer T
  typed : LogicalType → Answer T
  refused : Refusal → Answer T

-- what a reply answers
abbrev pub answer_of : {T : Type 0} → Reply T → Answer T
answer_of reply.Done = done
answer_of reply.NotMet = not_met
answer_of reply.NotGiven = not_given
answer_of (reply.Number n) = number n
answer_of (reply.Flag b) = flag b
answer_of (reply.Slot shown) = slot (stored_slot shown)
answer_of (reply.Slots shown) = slots (map stored_slot shown.items)
answer_of (reply.Numbers ns) = numbers ns.items
answer_of (reply.Typed t) = typed (logical_type t)
answer_of reply.Left = left
answer_of reply.Right = right
answer_of (reply.Refused error) = refused (refusal error)

-- what a command's code answers: a reply, or the refusal of an error
abbrev pub outcome : {T : Type 0} → Result (Reply T) Error → Answer T
outcome (Ok reply) = answer_of reply
outcome (Err e) = refused (refusal e)

-- the three answers that are freely chosen, each where its transition allows it
abbrev pub is_memory : {T : Type 0} → Answer T → Bool
is_memory (refused out_of_memory) = true
is_memory _ = false

abbrev pub is_not_given : {T : Type 0} → Answer T → Bool
is_not_given not_given = true
is_not_given _ = false

abbrev pub is_left : {T : Type 0} → Answer T → Bool
is_left left = true
is_left _ = false

-- the answer where a condition fails
abbrev pub is_not_met : {T : Type 0} → Answer T → Bool
is_not_met not_met = true
is_not_met _ = false
