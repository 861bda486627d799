-- What a slot stores, apart from where its bytes lie.
use Rattle.std.specs.Prelude.{◌≡◌, List, map, Option, true, false}
use Rattle.arrow_entry.specs.declared.slot.SlotRef.{SlotRef}
use Rattle.arrow_entry.specs.declared.slot.SlotRef.TheVariants as slot
use Rattle.arrow_model.specs.declared.item.Item.{Item}
use Rattle.arrow_model.specs.declared.item.Turn.{Turn}
use Rattle.arrow_model.specs.Change.{turns_of}
use Rattle.arrow_model.specs.Item.{Stored, value, bit, bytes_item, stored_slot}

-- the stored item
abbrev pub stored_ref : {T : Type 0} → SlotRef T → Stored T
stored_ref (slot.Value x) = value x
stored_ref (slot.Bit b) = bit b
stored_ref (slot.Bytes v) = bytes_item false v.now
stored_ref (slot.Text s) = bytes_item true s.now

-- this holds of whatever gives what items store by what contracts see of them
abbrev pub StoresAs : {A S T : Type 0} → (A → Stored T) → (A → S) → ((S → Stored T) → Type 0) → Type 0
StoresAs stored_by seen Holds = (stored : _) → ((item : _) → stored_by item ≡ stored (seen item)) → Holds stored

-- these slots are what turns give of items, of which each stores what `stored` says
abbrev pub AreTurnsOf : {S T : Type 0} → List Turn → (S → Stored T) → List S → List (Option (Item T)) → Type 0
AreTurnsOf turns stored items slots = map stored_slot slots ≡ turns_of turns (map stored items)
