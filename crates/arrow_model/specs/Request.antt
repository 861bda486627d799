-- Commands, apart from where their items lie; and which requests there are.
use Rattle.std.specs.Prelude.{⊤, ℕ, ℤ, Bool, List, All, map, Option, option_map}
use Rattle.arrow_types.specs.Types.{LogicalType, logical_type}
use Rattle.arrow_model.specs.declared.item.Turn.{Turn}
use Rattle.arrow_model.specs.declared.command.Command.{Command}
use Rattle.arrow_model.specs.declared.command.Command.TheVariants as command
use Rattle.arrow_model.specs.declared.command.Bits.{Bits}
use Rattle.arrow_model.specs.declared.command.Parts.{Parts}
use Rattle.arrow_model.specs.declared.command.Raw.{Raw}
use Rattle.arrow_model.specs.declared.command.Raw.TheVariants as raw
use Rattle.arrow_model.specs.Kind.{Shape, shape, IsKind}
use Rattle.arrow_model.specs.Item.{Stored, ListChange, stored_item, stored_slot, change_of, IsText, IsTextSlot, IsTextChange}

-- packed bits: their bytes, and how many count
pub record Packed : Type 0 where
  pub bytes : List ℕ
  pub length : ℕ

-- raw stored values: native values; packed bits; offsets and bytes
pub data RawValues (T : Type 0) : Type 0 where
  values : List T → RawValues T
  packed : Packed → RawValues T
  cut_pieces : List ℤ → List ℕ → RawValues T

-- what a new value is to be made of
pub data Source (T : Type 0) : Type 0 where
  nothing : Source T
  nulls : LogicalType → ℕ → Source T
  parts : LogicalType → RawValues T → Option Packed → Source T
  slots : List (Option (Stored T)) → Source T
  items : List (Stored T) → Source T

-- a command on one entry, without the entry's number
pub data Ask (T : Type 0) : Type 0 where
  len type_of held all_slots null_count bytes offsets empty push_null pop reserve shrink freeze thaw nullable : Ask T
  value get is_null : ℕ → Ask T
  turns : List Turn → Ask T
  slice : ℕ → ℕ → Ask T
  set_mask : Option (List Bool) → Ask T
  apply_mask apply_values : ListChange (Stored T) → Ask T
  set_values extend_values : List (Stored T) → Ask T
  set : ℕ → Option (Stored T) → Ask T
  write : ℕ → Stored T → Ask T
  push : Option (Stored T) → Ask T
  extend : List (Option (Stored T)) → Ask T
  extend_constant : ℕ → Option (Stored T) → Ask T
  to : LogicalType → Ask T

-- a command on a table, with the numbers of its entries in the order of `Command`: one that makes a value in an entry,
-- one on one entry, and those on two entries, on three, and on none
pub data Request (T : Type 0) : Type 0 where
  make : ℕ → Shape → Source T → Request T
  at : ℕ → Ask T → Request T
  clone_to extend_from equal : ℕ → ℕ → Request T
  filter_to : ℕ → ℕ → ℕ → Request T
  take_to : ℕ → List ℤ → ℕ → Request T
  check_indexes : List ℤ → ℕ → Request T

abbrev pub packed_bits : Bits → Packed
packed_bits bits = record { bytes = bits.bytes.items; length = bits.length }

module _ {T O : Type 0} (number : O → ℤ) where
  abbrev pub given_by : Raw T O → RawValues T
  given_by (raw.Values xs) = values xs.items
  given_by (raw.Bits bits) = packed (packed_bits bits)
  given_by (raw.Pieces starts given_bytes) = cut_pieces (map number starts.items) given_bytes.items

  -- what raw parts are the source of, and what is asked of them
  abbrev pub source_of : Parts T O → Source T
  source_of p = parts (logical_type p.data_type) (given_by p.raw) (option_map packed_bits p.mask)

  abbrev pub parts_request : ℕ → Parts T O → Request T
  parts_request e p = make e (shape p.kind) (source_of p)

  -- what a command asks
  abbrev pub as_request : Command T O → Request T
  as_request (command.New e kind) = make e (shape kind) nothing
  as_request (command.NewNull e kind t n) = make e (shape kind) (nulls (logical_type t) n)
  as_request (command.Parts e p) = parts_request e p
  as_request (command.FromSlots e kind xs) = make e (shape kind) (slots (map stored_slot xs.items))
  as_request (command.FromItems e kind xs) = make e (shape kind) (items (map stored_item xs.items))
  as_request (command.Len e) = at e len
  as_request (command.Value e i) = at e (value i)
  as_request (command.Get e i) = at e (get i)
  as_request (command.IsNull e i) = at e (is_null i)
  as_request (command.NullCount e) = at e null_count
  as_request (command.Slots e) = at e all_slots
  as_request (command.Turns e ts) = at e (turns ts.items)
  as_request (command.TypeOf e) = at e type_of
  as_request (command.Held e) = at e held
  as_request (command.Bytes e) = at e bytes
  as_request (command.Offsets e) = at e offsets
  as_request (command.Slice e a n) = at e (slice a n)
  as_request (command.Clone e f) = clone_to e f
  as_request (command.Drop e) = at e empty
  as_request (command.SetMask e mask) = at e (set_mask (option_map (λ marks. marks.items) mask))
  as_request (command.ApplyMask e change) = at e (apply_mask (change_of change))
  as_request (command.SetValues e xs) = at e (set_values (map stored_item xs.items))
  as_request (command.ApplyValues e change) = at e (apply_values (change_of change))
  as_request (command.Set e i x) = at e (set i (stored_slot x))
  as_request (command.Write e i x) = at e (write i (stored_item x))
  as_request (command.Push e x) = at e (push (stored_slot x))
  as_request (command.PushNull e) = at e push_null
  as_request (command.Pop e) = at e pop
  as_request (command.Extend e xs) = at e (extend (map stored_slot xs.items))
  as_request (command.ExtendValues e xs) = at e (extend_values (map stored_item xs.items))
  as_request (command.ExtendConstant e n x) = at e (extend_constant n (stored_slot x))
  as_request (command.ExtendFromSelf e f) = extend_from e f
  as_request (command.Reserve e n b) = at e reserve
  as_request (command.Shrink e) = at e shrink
  as_request (command.Freeze e) = at e freeze
  as_request (command.Thaw e) = at e thaw
  as_request (command.Nullable e) = at e nullable
  as_request (command.To e t) = at e (to (logical_type t))
  as_request (command.Equal e f) = equal e f
  as_request (command.Filter e f g) = filter_to e f g
  as_request (command.Take e keys g) = take_to e keys.items g
  as_request (command.CheckIndexes keys n) = check_indexes keys.items n

-- the text that a source, or a command on one entry, names is UTF-8; and so is that of a request, whose kind exists
module _ {T : Type 0} where
  abbrev pub IsTextSource : Source T → Type 0
  IsTextSource (slots xs) = All IsTextSlot xs
  IsTextSource (items xs) = All IsText xs
  IsTextSource _ = ⊤

  abbrev pub IsTextAsk : Ask T → Type 0
  IsTextAsk (set_values xs) = All IsText xs
  IsTextAsk (apply_values change) = IsTextChange change
  IsTextAsk (set i x) = IsTextSlot x
  IsTextAsk (write i x) = IsText x
  IsTextAsk (push x) = IsTextSlot x
  IsTextAsk (extend xs) = All IsTextSlot xs
  IsTextAsk (extend_values xs) = All IsText xs
  IsTextAsk (extend_constant n x) = IsTextSlot x
  IsTextAsk _ = ⊤

  abbrev pub IsRequest : Request T → Type 0
  IsRequest (make e s source) = IsKind s × IsTextSource source
  IsRequest (at e asks) = IsTextAsk asks
  IsRequest _ = ⊤
