-- The value that an entry is: its column, over what slots store, of whichever kind.
use Rattle.std.specs.Prelude.{◌≡◌, ℕ, Bool, true, false, List, [], ◌∷◌, map, Option, Some, option_map, Result, OnOk}
use Rattle.std.specs.Prelude.{IfErr}
use Rattle.arrow_types.specs.Failures.{FailureKeeps}
use Rattle.arrow_types.specs.Types.{refusal}
use Rattle.arrow_types.specs.declared.error.Error.{Error}
use Rattle.arrow_column.specs.Column.{ColumnWith, Column, refused_growth}
use Rattle.arrow_check.specs.Reading.{Cost}
use Rattle.arrow_bytes.specs.Pieces.{Around, nothing_around}
use Rattle.arrow_bytes.specs.Column.{ByteColumn}
use Rattle.arrow_entry.specs.declared.entry.Entry.{Entry}
use Rattle.arrow_entry.specs.declared.entry.Entry.TheVariants as entry
use Rattle.arrow_model.specs.Answer.{Answer, done, refused}
use Rattle.arrow_model.specs.Change.{grown, slot_over}
use Rattle.arrow_model.specs.Item.{Stored, value, bit, bytes_item}
use Rattle.arrow_model.specs.Kind.{Group, native, boolean, var_binary, shaped, frozen, with_nulls, values_alone}
use Rattle.arrow_model.specs.Request.{Ask, Request}
use Rattle.arrow_model.specs.Step.{Changes, Does, Extends}
use Rattle.arrow_model.specs.Value.{Value, State, TableState, NativeMembers, OffsetMembers, types_of}

-- the same column over stored items of any kind
unfoldable pub erase_type : {A S T : Type 0} → (A → Around) → (S → Stored T) → ColumnWith A S
    → ColumnWith Around (Stored T)
erase_type around stored column = record {
  data_type = column.data_type;
  around = around column.around;
  rows = map (λ row. (stored row.0, row.1)) column.rows;
  held = column.held;
}

-- the value of a column of native values, of booleans, or of bytes
module _ {T : Type 0} where
  abbrev pub native_value : Group → Column T → Value T
  native_value group column = record
      { shape = shaped group native; column = erase_type (λ _. nothing_around) value column }

  abbrev pub boolean_value : Group → Column Bool → Value T
  boolean_value group column = record
      { shape = shaped group boolean; column = erase_type (λ _. nothing_around) bit column }

  abbrev pub bytes_value : Group → Bool → ByteColumn → Value T
  bytes_value group is_text column = record {
    shape = shaped group (var_binary is_text);
    column = erase_type (λ around. around) (bytes_item is_text) column;
  }

-- the value that an entry is
abbrev pub value_of : {T O : Type 0} → Entry T O → Value T
value_of (entry.Primitive column) = native_value frozen column
value_of (entry.Boolean column) = boolean_value frozen column
value_of (entry.Binary column) = bytes_value frozen false column
value_of (entry.Utf8 column) = bytes_value frozen true column
value_of (entry.MutablePrimitive column) = native_value with_nulls column
value_of (entry.MutableBoolean column) = boolean_value with_nulls column
value_of (entry.MutableBinary column) = bytes_value with_nulls false column
value_of (entry.MutableUtf8 column) = bytes_value with_nulls true column
value_of (entry.BinaryValues column) = bytes_value values_alone false column
value_of (entry.Utf8Values column) = bytes_value values_alone true column

-- the value in an entry of a table, where there is one; those of a list of entries; and the table of these and of the
-- counts
abbrev pub value_in : {T O : Type 0} → Option (Entry T O) → Option (Value T)
value_in = option_map value_of

abbrev pub state_of : {T O : Type 0} → List (Option (Entry T O)) → State T
state_of = map value_in

abbrev pub table_of : {T O : Type 0} → List (Option (Entry T O)) → Cost → TableState T
table_of entries cost = record { entries = state_of entries; cost = cost }

module _ {T O : Type 0} (natives : NativeMembers T) (offset : OffsetMembers O) where
  -- what is asked of one entry, or of a list of entries, is done: this is answered, and these entries are left
  abbrev pub EntryStep : Ask T → Option (Entry T O) → Answer T → Option (Entry T O) → Type 0
  EntryStep asks old answer new = Does (types_of natives offset) (value_in old) asks answer (value_in new)

  abbrev pub EntriesStep : Request T → List (Option (Entry T O)) → Answer T → List (Option (Entry T O)) → Type 0
  EntriesStep asks old answer new = Changes (types_of natives offset) (state_of old) asks answer (state_of new)

  -- a slot is appended, which offsets can express
  abbrev pub Pushes : {R : Type 0} → Result R Error → Entry T O → Option (Stored T) → Entry T O → Type 0
  Pushes result old x new = OnOk result ((slot_over (types_of natives offset) (value_of old) x ≡ false)
      × (value_of new ≡ grown (types_of natives offset) (value_of old) (x ∷ [])))

  -- a slot is refused, for an overflow or else for memory, and the entry stays
  abbrev pub RefusedPushKeeps : {R : Type 0} → Result R Error → Entry T O → Option (Stored T) → Entry T O → Type 0
  RefusedPushKeeps result old x new =
      FailureKeeps result (refused_growth (slot_over (types_of natives offset) (value_of old) x)) (value_of old)
      (value_of new)

  -- slots are appended, all of them, or those before the one that is refused
  abbrev pub ExtendsByAll : {R : Type 0} → Result R Error → Entry T O → List (Option (Stored T)) → Entry T O → Type 0
  ExtendsByAll result old slots new =
      OnOk result (Extends (types_of natives offset) (value_of old) slots done (Some (value_of new)))

  abbrev pub ExtendsUntilRefused : {R : Type 0} → Result R Error → Entry T O → List (Option (Stored T)) → Entry T O
      → Type 0
  ExtendsUntilRefused result old slots new = IfErr result (λ e. (over : Bool) × (e ≡ refused_growth over)
      × Extends (types_of natives offset) (value_of old) slots (refused (refusal e)) (Some (value_of new)))
