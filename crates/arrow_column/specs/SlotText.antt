-- The text of slots: what is written of an array.
use Rattle.std.specs.Prelude.{ℕ, ◌++◌, Bool, List, codes, if◌then◌else◌, map, Option, None, Some}
use Rattle.std.specs.Fmt.{◌++?◌, debug_option}
use Rattle.arrow_types.specs.ListText.{list_text}
use Rattle.arrow_types.specs.Types.{LogicalType, is_extension}
use Rattle.arrow_types.specs.TypeText.{type_text}
use Rattle.arrow_memory.specs.MarkText.{marks_text}
use Rattle.arrow_column.specs.Column.{ColumnWith, mask_of, slots_of, stored_values}

-- a slot: `None`, or the text of its value
abbrev pub debug_slot : {S : Type 0} → (S → Option (List ℕ)) → Option S → Option (List ℕ)
debug_slot text None = Some (codes "None")
debug_slot text (Some value) = text value

-- the text of each slot
abbrev pub debug_slots : {S : Type 0} → (S → Option (List ℕ)) → List (Option S) → List (Option (List ℕ))
debug_slots text slots = map (debug_slot text) slots

-- the slots in brackets, as `[1, None, 3]`
abbrev pub slots_text : {S : Type 0} → (S → Option (List ℕ)) → List (Option S) → Option (List ℕ)
slots_text text slots = list_text (debug_slots text slots)

-- the last field of a builder: its mask, where it holds one
abbrev pub validity_text : Option (List Bool) → Option (List ℕ)
validity_text mask = Some (codes ", validity: ") ++? debug_option marks_text mask ++? Some (codes " }")

-- the name of a builder and its first field, the data type, and the name of the next field
abbrev pub head_text : List ℕ → LogicalType → List ℕ → List ℕ
head_text name t next = name ++ codes " { data_type: " ++ type_text t ++ next

-- a builder, as its name and its fields; the text of its stored values together is given
abbrev pub builder_text : {A S : Type 0} → List ℕ → (List S → Option (List ℕ)) → ColumnWith A S → Option (List ℕ)
builder_text name values column =
    Some (head_text name column.data_type (codes ", values: ")) ++? values (stored_values column)
    ++? validity_text (mask_of column)

-- true or false
abbrev pub boolean_text : Bool → Option (List ℕ)
boolean_text value = Some (if value then codes "true" else codes "false")

-- an array, as its data type and its slots; the text of a stored value is given
abbrev pub array_text : {A S : Type 0} → (S → Option (List ℕ)) → ColumnWith A S → Option (List ℕ)
array_text text column = Some (type_text column.data_type) ++? slots_text text (slots_of column)

-- an array, as its name and its slots, or as its data type and its slots if that is an extension
abbrev pub named_text : {A S : Type 0} → List ℕ → (S → Option (List ℕ)) → ColumnWith A S → Option (List ℕ)
named_text name text column =
    if is_extension column.data_type then array_text text column
    else Some name ++? slots_text text (slots_of column)
