-- The text of the slots of a value.
use Rattle.std.specs.Prelude.{ℕ, zero, suc, ℤ, List, [], ◌∷◌, MatchOption, String, map, slice_get}
use Rattle.std.specs.declared.alloc.Global.{Global}
use Rattle.arrow_column.specs.Column.{slots_of}
use Rattle.arrow_model.specs.Value.{Value}
use Rattle.arrow_syntax.specs.Text.{AppendsText, slot_text}

-- the texts of all slots
abbrev pub slot_texts : Value ℤ → List (List ℕ)
slot_texts value = map slot_text (slots_of value.column)

-- the text of the slot at an index was appended
abbrev pub AppendsSlotText : Value ℤ → ℕ → String Global → String Global → Type 0
AppendsSlotText value i old new =
    MatchOption (slice_get (slots_of value.column) i) ⊥ (λ slot. AppendsText old new (slot_text slot))

-- the separator before the slot at an index: a space, but nothing before the first
abbrev pub gap : ℕ → List ℕ
gap zero = []
gap (suc i) = 32 ∷ []
