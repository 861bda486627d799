-- Slots and items of bytes that are appended one after the other: `shown` are the bytes of an item, and `most` is the
-- greatest offset.
use Rattle.std.specs.Prelude.{⊤, ℕ, List, [], map, Option, Some, Result, option_map}
use Rattle.arrow_types.specs.Types.{LogicalType}
use Rattle.arrow_types.specs.declared.error.Error.{Error}
use Rattle.arrow_memory.specs.Offsets.{MatchGrowth}
use Rattle.arrow_column.specs.Appends.{AppendsSlots, ExtendsByItems, ExtendsBySlots, FreezesBySlots, FreezesSlots}
use Rattle.arrow_column.specs.Appends.{GivesTooManyItems, GivesTooManySlots, SlotsOverflow, StopsInItems, StopsInSlots}
use Rattle.arrow_column.specs.Column.{append_slot, joined, slot_overflows, stored_values}
use Rattle.arrow_column.specs.Growth.{GrowthKeeps, Grows}
use Rattle.arrow_bytes.specs.Column.{ByteColumn, empty_bytes, item_overflows, joins_overflow}
use Rattle.arrow_bytes.specs.Pieces.{Pieces, append_items, items_overflow}

-- a call appends items, whose bytes end at most at the greatest offset
abbrev pub AppendsItems : {R : Type 0} → Result R Error → ℕ → Pieces → List (List ℕ) → Pieces → Type 0
AppendsItems result most old more new = Grows result (items_overflow most old more) new (append_items old more)

-- a call that fails to append items leaves them as they were
abbrev pub AppendKeepsItems : {R : Type 0} → Result R Error → ℕ → Pieces → List (List ℕ) → Pieces → Type 0
AppendKeepsItems result most old more new = GrowthKeeps result (items_overflow most old more) old new

-- a call appends the rows of another column, unless their bytes would end past the greatest offset
abbrev pub JoinsBytes : {R : Type 0} → Result R Error → ℕ → ByteColumn → ByteColumn → ByteColumn → Type 0
JoinsBytes result most old added new = Grows result (joins_overflow most old added) new (joined old added)

-- a call that fails to append the rows of another column leaves the column as it was
abbrev pub JoinKeepsBytes : {R : Type 0} → Result R Error → ℕ → ByteColumn → ByteColumn → ByteColumn → Type 0
JoinKeepsBytes result most old added new = GrowthKeeps result (joins_overflow most old added) old new

module _ {X : Type 0} (shown : X → List ℕ) (most : ℕ) where
  -- a call appends a slot, whose bytes end at most at the greatest offset
  abbrev pub PushesSlot : {R : Type 0} → Result R Error → ByteColumn → Option X → ByteColumn → Type 0
  PushesSlot result old slot new = Grows result (slot_overflows (item_overflows shown most) old slot) new
      (append_slot [] old (option_map shown slot))

  -- a call appends an item, whose bytes end at most at the greatest offset
  abbrev pub PushesItem : {R : Type 0} → Result R Error → ByteColumn → X → ByteColumn → Type 0
  PushesItem result old item new = Grows result (item_overflows shown most old.around (stored_values old) item) new
      (append_slot [] old (Some (shown item)))

  -- a call that fails to append a slot leaves the column as it was
  abbrev pub PushKeepsSlots : {R : Type 0} → Result R Error → ByteColumn → Option X → ByteColumn → Type 0
  PushKeepsSlots result old slot new =
      GrowthKeeps result (slot_overflows (item_overflows shown most) old slot) old new

  -- a call that fails to append an item leaves the column as it was
  abbrev pub PushKeepsItems : {R : Type 0} → Result R Error → ByteColumn → X → ByteColumn → Type 0
  PushKeepsItems result old item new =
      GrowthKeeps result (item_overflows shown most old.around (stored_values old) item) old new

  -- a column of this type is made of these slots
  abbrev pub MadeOfSlots : LogicalType → List (Option X) → ByteColumn → Type 0
  MadeOfSlots t = AppendsSlots (item_overflows shown most) shown [] (empty_bytes t)

  -- an array of this type is made of these slots, and holds a mask exactly if one is null
  abbrev pub FrozenOfSlots : LogicalType → List (Option X) → ByteColumn → Type 0
  FrozenOfSlots t = FreezesSlots (item_overflows shown most) shown [] (empty_bytes t)

  -- an array of this type is made of these items, without a mask
  abbrev pub FrozenOfItems : LogicalType → List X → ByteColumn → Type 0
  FrozenOfItems t items = FrozenOfSlots t (map Some items)

  -- why nothing is made of these slots: the bytes of one end above the greatest offset, or else an allocation failed
  abbrev pub SlotsRefused : LogicalType → List (Option X) → Error → Type 0
  SlotsRefused t slots e = MatchGrowth e (SlotsOverflow (item_overflows shown most) shown [] slots (empty_bytes t)) ⊤

  -- why nothing is made of these items: one ends above the greatest offset, or else an allocation failed
  abbrev pub ItemsRefused : LogicalType → List X → Error → Type 0
  ItemsRefused t items e = SlotsRefused t (map Some items) e

  -- slots and items that an iterator gives
  module _ {I : Type 0} where
    -- all slots that an iterator gives are appended
    abbrev pub BytesBySlots : (I → Option (Option X) → I → Type 0) → I → ByteColumn → ByteColumn → Type 0
    BytesBySlots = ExtendsBySlots (item_overflows shown most) shown []

    -- all items that an iterator gives are appended
    abbrev pub BytesByItems : (I → Option X → I → Type 0) → I → ByteColumn → ByteColumn → Type 0
    BytesByItems = ExtendsByItems (item_overflows shown most) shown []

    -- the slots that an iterator gave before the failure are appended
    abbrev pub BytesStopInSlots : (I → Option (Option X) → I → Type 0) → I → ByteColumn → ByteColumn → Error → Type 0
    BytesStopInSlots = StopsInSlots (item_overflows shown most) shown []

    -- the items that an iterator gave before the failure are appended
    abbrev pub BytesStopInItems : (I → Option X → I → Type 0) → I → ByteColumn → ByteColumn → Error → Type 0
    BytesStopInItems = StopsInItems (item_overflows shown most) shown []

    -- a column of this type is made of all slots that an iterator gives
    abbrev pub MadeOfGivenSlots : LogicalType → (I → Option (Option X) → I → Type 0) → I → ByteColumn → Type 0
    MadeOfGivenSlots t gives iter = BytesBySlots gives iter (empty_bytes t)

    -- a column of this type is made of all items that an iterator gives
    abbrev pub MadeOfGivenItems : LogicalType → (I → Option X → I → Type 0) → I → ByteColumn → Type 0
    MadeOfGivenItems t gives iter = BytesByItems gives iter (empty_bytes t)

    -- an array of this type is made of all slots that an iterator gives, and holds a mask exactly if one is null
    abbrev pub FrozenOfGivenSlots : LogicalType → (I → Option (Option X) → I → Type 0) → I → ByteColumn → Type 0
    FrozenOfGivenSlots t gives iter =
        FreezesBySlots (item_overflows shown most) shown [] gives iter (empty_bytes t)

    -- why nothing is made of the slots of an iterator: the bytes of one end above the greatest offset, or else an
    -- allocation failed
    abbrev pub GivenSlotsRefused : LogicalType → (I → Option (Option X) → I → Type 0) → I → Error → Type 0
    GivenSlotsRefused t gives iter e =
        MatchGrowth e (GivesTooManySlots (item_overflows shown most) shown [] gives iter (empty_bytes t)) ⊤

    -- why nothing is made of the items of an iterator: one ends above the greatest offset, or else an allocation failed
    abbrev pub GivenItemsRefused : LogicalType → (I → Option X → I → Type 0) → I → Error → Type 0
    GivenItemsRefused t gives iter e =
        MatchGrowth e (GivesTooManyItems (item_overflows shown most) shown [] gives iter (empty_bytes t)) ⊤
