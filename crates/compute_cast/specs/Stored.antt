-- The decimal texts of slots, one after the other in the bytes of an array. Only private functions cite this.
use Rattle.std.specs.Prelude.{◌≡◌, ◌+◌, ℕ, ℤ, Bool, true, false, nat_lt, List, [], ◌∷◌, ◌++◌, length, map}
use Rattle.std.specs.Prelude.{Option, Some, None, Vec, option_map, unwrap_or}
use Rattle.std.specs.List.{concat}
use Rattle.arrow_types.specs.Types.{LogicalType}
use Rattle.arrow_memory.specs.Offsets.{last_of}
use Rattle.arrow_column.specs.Column.{ColumnWith, slots_fit, slots_of}
use Rattle.arrow_check.specs.Pieces.{offsets_of}
use Rattle.arrow_bytes.specs.Column.{ByteColumn, empty_bytes, item_overflows}
use Rattle.arrow_bytes.specs.Kinds.{AreItems}
use Rattle.compute_cast.specs.Decimals.{MakesDecimals, value_decimal}

module _ {X : Type 0} (number : X → ℤ) where
  -- the bytes that a slot stores: the decimal text of its number, and none if it is null
  abbrev pub decimal_text : Option X → List ℕ
  decimal_text slot = unwrap_or (option_map (value_decimal number) slot) []

  -- the bytes that each slot stores
  abbrev pub decimal_texts : List (Option X) → List (List ℕ)
  decimal_texts slots = map decimal_text slots

  -- the end of a slot's text is appended to offsets
  abbrev pub AppendsDecimal : List ℕ → Option X → List ℕ → Type 0
  AppendsDecimal old slot new = new ≡ old ++ (last_of old + length (decimal_text slot)) ∷ []

  -- whether the text of a slot that begins here ends above the greatest offset; a null never does
  abbrev pub ends_past : ℕ → ℕ → Option X → Bool
  ends_past most start None = false
  ends_past most start (Some x) = nat_lt most (start + length (value_decimal number x))

-- offsets and bytes are those of the decimal texts of these slots, none of which ends above the greatest offset
pub record HoldTexts {X : Type 0} (number : X → ℤ) (most : ℕ) (is_text : Bool) (t : LogicalType)
    (slots : List (Option X)) (offsets bytes : List ℕ) : Type 0 where
  pub fit : slots_fit (item_overflows (value_decimal number) most) (value_decimal number) [] (empty_bytes t) slots
      ≡ true
  pub items : AreItems is_text (decimal_texts number slots)
  pub ends : offsets ≡ offsets_of 0 (decimal_texts number slots)
  pub texts : bytes ≡ concat (decimal_texts number slots)

-- they are those of the texts of the slots of a column
abbrev pub HoldSlots : {A X Z : Type 0} → (X → ℤ) → ℕ → Bool → LogicalType → ColumnWith A X → List ℕ × Vec ℕ Z → Type 0
HoldSlots number most is_text t column parts = HoldTexts number most is_text t (slots_of column) parts.0 parts.1.items

-- an array of the texts of the slots of a column
abbrev pub MakesTexts : {A X : Type 0} → (X → ℤ) → ℕ → LogicalType → ColumnWith A X → ByteColumn → Type 0
MakesTexts number most t column = MakesDecimals number most t (slots_of column)
