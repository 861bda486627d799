-- Items, apart from where their bytes lie.
use Rattle.std.specs.Prelude.{⊤, ℕ, Bool, true, false, not, ◌&&◌, ◌||◌, nat_eq, List, [], length, replicate, reverse}
use Rattle.std.specs.Prelude.{Option, Some, None, IfSome, is_none, option_map, string_bytes}
use Rattle.std.specs.List.{list_all}
use Rattle.arrow_check.specs.Utf8.{IsWellFormed}
use Rattle.arrow_model.specs.declared.item.Item.{Item}
use Rattle.arrow_model.specs.declared.item.Item.TheVariants as item
use Rattle.arrow_model.specs.declared.item.Change.{Change}
use Rattle.arrow_model.specs.declared.item.Change.TheVariants as named
use Rattle.arrow_model.specs.Kind.{ValueKind, native, boolean, var_binary, same_value_kind, Shape, is_builder}
use Rattle.arrow_model.specs.Kind.{is_nullable}

-- what a slot stores
pub data Stored (T : Type 0) : Type 0 where
  value : T → Stored T
  bit : Bool → Stored T
  bytes_item : (is_text : Bool) → List ℕ → Stored T

-- the stored item that an item is
abbrev pub stored_item : {T : Type 0} → Item T → Stored T
stored_item (item.Value x) = value x
stored_item (item.Bit b) = bit b
stored_item (item.Bytes v) = bytes_item false v.items
stored_item (item.Text s) = bytes_item true (string_bytes s)

-- the same of a slot, which may be null
abbrev pub stored_slot : {T : Type 0} → Option (Item T) → Option (Stored T)
stored_slot = option_map stored_item

-- the bytes that it takes up, beside offsets
abbrev pub stored_bytes : {T : Type 0} → Stored T → List ℕ
stored_bytes (value x) = []
stored_bytes (bit b) = []
stored_bytes (bytes_item is_text bytes) = bytes

-- whether an item is bytes or text
abbrev pub has_bytes : {T : Type 0} → Stored T → Bool
has_bytes (value x) = false
has_bytes (bit b) = false
has_bytes (bytes_item is_text bytes) = true

-- its value kind
abbrev pub value_kind_of : {T : Type 0} → Stored T → ValueKind
value_kind_of (value x) = native
value_kind_of (bit b) = boolean
value_kind_of (bytes_item is_text bytes) = var_binary is_text

-- whether an item is of a value kind
abbrev pub fits : {T : Type 0} → ValueKind → Stored T → Bool
fits sort x = same_value_kind sort (value_kind_of x)

-- a null fits wherever there are nulls
abbrev pub slot_fits : {T : Type 0} → ValueKind → Option (Stored T) → Bool
slot_fits sort (Some x) = fits sort x
slot_fits sort None = true

-- whether a builder of a kind takes a slot, which is null only if the builder has nulls
abbrev pub takes_slot : {T : Type 0} → Shape → Option (Stored T) → Bool
takes_slot s x = slot_fits s.value_kind x && (is_nullable s || not (is_none x))

abbrev pub can_push : {T : Type 0} → Shape → Option (Stored T) → Bool
can_push s x = is_builder s && takes_slot s x

-- whether items can replace as many others
abbrev pub can_replace : {T : Type 0} → ValueKind → ℕ → List (Stored T) → Bool
can_replace sort count items = nat_eq (length items) count && list_all (fits sort) items

-- a change of a list that keeps its length: all elements become the same, or the list is reversed
pub data ListChange (S : Type 0) : Type 0 where
  fill : S → ListChange S
  reversal : ListChange S

abbrev pub changed : {S : Type 0} → ListChange S → List S → List S
changed (fill x) xs = replicate (length xs) x
changed reversal xs = reverse xs

abbrev pub change_of : {T : Type 0} → Change T → ListChange (Stored T)
change_of (named.Fill x) = fill (stored_item x)
change_of named.Reverse = reversal

-- whether the item that fills a list is of a value kind
abbrev pub change_fits : {T : Type 0} → ValueKind → ListChange (Stored T) → Bool
change_fits sort (fill x) = fits sort x
change_fits sort reversal = true

-- the same change of a list of marks; `None` if the item that fills it is not a boolean
abbrev pub change_of_marks : {T : Type 0} → ListChange (Stored T) → Option (ListChange Bool)
change_of_marks (fill (bit b)) = Some (fill b)
change_of_marks reversal = Some reversal
change_of_marks _ = None

-- what is text is UTF-8, as every `String` is: an item, a slot, and the item of a change
abbrev pub IsText : {T : Type 0} → Stored T → Type 0
IsText (value x) = ⊤
IsText (bit b) = ⊤
IsText (bytes_item false bytes) = ⊤
IsText (bytes_item true bytes) = IsWellFormed bytes

abbrev pub IsTextSlot : {T : Type 0} → Option (Stored T) → Type 0
IsTextSlot x = IfSome x IsText

abbrev pub IsTextChange : {T : Type 0} → ListChange (Stored T) → Type 0
IsTextChange (fill x) = IsText x
IsTextChange reversal = ⊤
