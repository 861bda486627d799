-- What the code of a command does to an array or a builder of one kind, and what it returns of one of bytes or text.
use Rattle.std.specs.Prelude.{◌≡◌, false, List, Option, Some, Result, MatchOption, IsTrue}
use Rattle.arrow_types.specs.declared.error.Error.{Error}
use Rattle.arrow_column.specs.Column.{Column}
use Rattle.arrow_memory.specs.Offsets.{KeepsOffsets, numbers_of}
use Rattle.arrow_entry.specs.declared.entry.Entry.{Entry}
use Rattle.arrow_entry.specs.Entry.{native_value, value_of}
use Rattle.arrow_model.specs.declared.reply.Reply.{Reply}
use Rattle.arrow_model.specs.Answer.{outcome}
use Rattle.arrow_model.specs.Change.{all_offsets}
use Rattle.arrow_model.specs.Kind.{Group, is_var_binary}
use Rattle.arrow_model.specs.Request.{Ask}
use Rattle.arrow_model.specs.Step.{Does}
use Rattle.arrow_model.specs.Value.{Value, NativeMembers, OffsetMembers, types_of}

-- what is asked is done to native values
abbrev pub NativeStep : {T O : Type 0} → NativeMembers T → OffsetMembers O → Group → Ask T → Column T
    → Result (Reply T) Error → Column T → Type 0
NativeStep natives offset group asks old result new =
    Does (types_of natives offset) (Some (native_value group old)) asks (outcome result) (Some (native_value group new))

-- this is found exactly in an entry of bytes or text
abbrev pub FoundInBytes : {T O A : Type 0} → Entry T O → Option A → (A → Type 0) → Type 0
FoundInBytes entry found IsFound =
    MatchOption found (is_var_binary (value_of entry).shape ≡ false)
    (λ x. IsTrue (is_var_binary (value_of entry).shape) × IsFound x)

-- these are legal offsets, and those of a value
abbrev pub AreOffsetsOf : {T O : Type 0} → OffsetMembers O → Value T → List O → Type 0
AreOffsetsOf offset v offsets = KeepsOffsets offset.number offset.most offsets
    × (numbers_of offset.number offsets ≡ all_offsets v)
