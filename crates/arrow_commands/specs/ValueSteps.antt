-- What commands on stored values do to an entry that holds something.
use Rattle.std.specs.Prelude.{IsTrue, List, Result, Some, length}
use Rattle.arrow_types.specs.declared.error.Error.{Error}
use Rattle.arrow_entry.specs.declared.entry.Entry.{Entry}
use Rattle.arrow_entry.specs.Entry.{EntryStep, value_of}
use Rattle.arrow_model.specs.declared.reply.Reply.{Reply}
use Rattle.arrow_model.specs.Answer.{outcome}
use Rattle.arrow_model.specs.Item.{Stored, can_replace}
use Rattle.arrow_model.specs.Request.{Ask}
use Rattle.arrow_model.specs.Value.{NativeMembers, OffsetMembers}

-- the items are as many as the slots of an entry, and fit its kind
abbrev pub CanReplace : {T O : Type 0} → Entry T O → List (Stored T) → Type 0
CanReplace entry items =
    IsTrue (can_replace (value_of entry).shape.value_kind (length (value_of entry).column.rows) items)

-- what is asked is done to an entry that holds something
abbrev pub StepOfHeld : {T O : Type 0} → NativeMembers T → OffsetMembers O → Ask T → Entry T O
    → Result (Reply T) Error → Entry T O → Type 0
StepOfHeld natives offset asks old result new =
    EntryStep natives offset asks (Some old) (outcome result) (Some new)
