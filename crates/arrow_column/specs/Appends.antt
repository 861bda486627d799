-- Slots that are appended one after the other, where any growth may fail: `overflows` says which item is more than can
-- be counted, `shown` what is stored of an item, and `default` what a null stores. Items are appended as valid slots.
use Rattle.std.specs.Prelude.{◌≡◌, Bool, true, List, ◌∷◌, ◌++◌, map, Option, None, Some, option_map}
use Rattle.std.specs.Iterator.{Drains, YieldsThen}
use Rattle.arrow_types.specs.Types.{LogicalType}
use Rattle.arrow_types.specs.declared.error.Error.{Error}
use Rattle.arrow_types.specs.declared.error.Error.TheVariants as error
use Rattle.arrow_column.specs.Column.{Column, ColumnWith, append_slots, array_of_slots, column_of_parts, refused_growth}
use Rattle.arrow_column.specs.Column.{slot_overflows, slots_fit, without_needless_mask}

module _ {A S X : Type 0} (overflows : A → List S → X → Bool) (shown : X → S) (default : S) where
  -- all of these can be counted, and are appended
  abbrev pub AppendsSlots : ColumnWith A S → List (Option X) → ColumnWith A S → Type 0
  AppendsSlots old slots new = (slots_fit overflows shown default old slots ≡ true)
      × (new ≡ append_slots default old (map (option_map shown) slots))

  -- an array of the slots of a column followed by these, which holds a mask exactly if a slot is null
  abbrev pub FreezesSlots : ColumnWith A S → List (Option X) → ColumnWith A S → Type 0
  FreezesSlots old slots array =
      (slots_fit overflows shown default old slots ≡ true)
      × (array ≡ without_needless_mask (append_slots default old (map (option_map shown) slots)))

  -- all before the last are appended, and that is refused: it can't be counted, or else an allocation fails
  abbrev pub StopsAtSlot : ColumnWith A S → List (Option X) → Option X → ColumnWith A S → Error → Type 0
  StopsAtSlot old begun last new e =
      (slots_fit overflows shown default old begun ≡ true)
      × (new ≡ append_slots default old (map (option_map shown) begun))
      × (e ≡ refused_growth (slot_overflows overflows new last))

  -- all slots of a list before one of them are appended, and that one is refused
  abbrev pub StopsAmongSlots : List (Option X) → ColumnWith A S → ColumnWith A S → Error → Type 0
  StopsAmongSlots slots old new e = (begun rest : List (Option X)) × (last : Option X)
      × (slots ≡ begun ++ last ∷ rest) × StopsAtSlot old begun last new e

  -- all before the last can be counted, and that can't
  abbrev pub OverflowsAtSlot : ColumnWith A S → List (Option X) → Option X → Type 0
  OverflowsAtSlot old begun last =
      (slots_fit overflows shown default old begun ≡ true)
      × (slot_overflows overflows (append_slots default old (map (option_map shown) begun)) last ≡ true)

  -- all slots of a list before one of them can be counted, and that one can't
  abbrev pub SlotsOverflow : List (Option X) → ColumnWith A S → Type 0
  SlotsOverflow slots old = (begun rest : List (Option X)) × (last : Option X)
      × (slots ≡ begun ++ last ∷ rest) × OverflowsAtSlot old begun last

  -- what an iterator gives is appended: slots, or items, which are valid slots; if a growth is refused, it may have
  -- more left
  module _ {I : Type 0} where
    abbrev pub ExtendsBySlots : (I → Option (Option X) → I → Type 0) → I → ColumnWith A S → ColumnWith A S → Type 0
    ExtendsBySlots gives iter old new = (slots : List (Option X)) × Drains gives iter slots × AppendsSlots old slots new

    abbrev pub ExtendsByItems : (I → Option X → I → Type 0) → I → ColumnWith A S → ColumnWith A S → Type 0
    ExtendsByItems gives iter old new = (items : List X) × Drains gives iter items
        × AppendsSlots old (map Some items) new

    abbrev pub FreezesBySlots : (I → Option (Option X) → I → Type 0) → I → ColumnWith A S → ColumnWith A S → Type 0
    FreezesBySlots gives iter old array = (slots : List (Option X)) × Drains gives iter slots
        × FreezesSlots old slots array

    abbrev pub StopsInSlots : (I → Option (Option X) → I → Type 0) → I → ColumnWith A S → ColumnWith A S → Error
        → Type 0
    StopsInSlots gives iter old new e =
        (begun : List (Option X)) × (last : Option X) × (rest : I) × YieldsThen gives iter begun (Some last) rest
        × StopsAtSlot old begun last new e

    abbrev pub StopsInItems : (I → Option X → I → Type 0) → I → ColumnWith A S → ColumnWith A S → Error → Type 0
    StopsInItems gives iter old new e =
        (begun : List X) × (last : X) × (rest : I) × YieldsThen gives iter begun (Some last) rest
        × StopsAtSlot old (map Some begun) (Some last) new e

    abbrev pub GivesTooManySlots : (I → Option (Option X) → I → Type 0) → I → ColumnWith A S → Type 0
    GivesTooManySlots gives iter old =
        (begun : List (Option X)) × (last : Option X) × (rest : I) × YieldsThen gives iter begun (Some last) rest
        × OverflowsAtSlot old begun last

    abbrev pub GivesTooManyItems : (I → Option X → I → Type 0) → I → ColumnWith A S → Type 0
    GivesTooManyItems gives iter old =
        (begun : List X) × (last : X) × (rest : I) × YieldsThen gives iter begun (Some last) rest
        × OverflowsAtSlot old (map Some begun) (Some last)

-- what an iterator gives is appended to a column that never overflows
module _ {A S I : Type 0} (default : S) where
  -- all its slots
  abbrev pub ExtendsAll : (I → Option (Option S) → I → Type 0) → I → ColumnWith A S → ColumnWith A S → Type 0
  ExtendsAll gives iter old new = (items : List (Option S)) × Drains gives iter items
      × (new ≡ append_slots default old items)

  -- the slots that it gave before one for which an allocation failed
  abbrev pub ExtendsUntil : (I → Option (Option S) → I → Type 0) → I → ColumnWith A S → ColumnWith A S → Error → Type 0
  ExtendsUntil gives iter old new e =
      (e ≡ error.OutOfMemory) × ((begun : List (Option S)) × (last : Option S) × (rest : I)
      × YieldsThen gives iter begun (Some last) rest × (new ≡ append_slots default old begun))

  -- all its values, in valid slots
  abbrev pub ExtendsAllValues : (I → Option S → I → Type 0) → I → ColumnWith A S → ColumnWith A S → Type 0
  ExtendsAllValues gives iter old new = (items : List S) × Drains gives iter items
      × (new ≡ append_slots default old (map Some items))

  -- the values that it gave before one for which an allocation failed
  abbrev pub ExtendsValuesUntil : (I → Option S → I → Type 0) → I → ColumnWith A S → ColumnWith A S → Error → Type 0
  ExtendsValuesUntil gives iter old new e =
      (e ≡ error.OutOfMemory) × ((begun : List S) × (last : S) × (rest : I)
      × YieldsThen gives iter begun (Some last) rest × (new ≡ append_slots default old (map Some begun)))

-- an array of this type is all that an iterator gives
module _ {S I : Type 0} where
  -- the array of this type of all slots that an iterator gives, which holds a mask exactly if one is null
  abbrev pub CollectsSlots : S → LogicalType → (I → Option (Option S) → I → Type 0) → I → Column S → Type 0
  CollectsSlots default t gives iter array = (items : List (Option S)) × Drains gives iter items
      × (array ≡ array_of_slots default t items)

  -- the array of this type of all values that an iterator gives, without a mask
  abbrev pub CollectsValues : LogicalType → (I → Option S → I → Type 0) → I → Column S → Type 0
  CollectsValues t gives iter array = (items : List S) × Drains gives iter items
      × (array ≡ column_of_parts t items None)
