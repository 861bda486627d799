-- What an entry that is lent answers for its slots, and entries beside others.
use Rattle.std.specs.Prelude.{◌≡◌, List, Option, Some, None}
use Rattle.arrow_column.specs.Column.{slots_of}
use Rattle.arrow_entry.specs.declared.entry.Entry.{Entry}
use Rattle.arrow_entry.specs.Entry.{value_of, value_in, EntriesStep}
use Rattle.arrow_model.specs.declared.command.Command.{Command}
use Rattle.arrow_model.specs.Answer.{Answer, not_met, slots}
use Rattle.arrow_model.specs.Request.{as_request}
use Rattle.arrow_model.specs.Step.{ExtendsFrom}
use Rattle.arrow_model.specs.Value.{Value, NativeMembers, OffsetMembers, types_of}

-- its slots, or that nothing is there
abbrev pub listed : {T O : Type 0} → Option (Entry T O) → Answer T
listed None = not_met
listed (Some entry) = slots (slots_of (value_of entry).column)

-- what a command asks of a list of entries is done
abbrev pub CommandChanges : {T O : Type 0} → NativeMembers T → OffsetMembers O → Command T O → List (Option (Entry T O))
    → Answer T → List (Option (Entry T O)) → Type 0
CommandChanges natives offset command = EntriesStep natives offset (as_request offset.number command)

-- both have the same slots as values
abbrev pub SameSlots : {T A : Type 0} → (A → Value T) → A → A → Type 0
SameSlots value first second = slots_of (value first).column ≡ slots_of (value second).column

-- the rows of another entry are appended
abbrev pub ExtendsEntry : {T O : Type 0} → NativeMembers T → OffsetMembers O → Option (Entry T O) → Option (Entry T O)
    → Answer T → Option (Entry T O) → Type 0
ExtendsEntry natives offset old other answer new =
    ExtendsFrom (types_of natives offset) (value_in old) (value_in other) answer (value_in new)
