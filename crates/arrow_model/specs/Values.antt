-- Which values an entry may hold; and that steps keep them so.
use Rattle.std.specs.Prelude.{◌≡◌, Bool, true, false, All, [], IfSome}
use Rattle.arrow_types.specs.Types.{IsRightType}
use Rattle.arrow_memory.specs.Rows.{Row}
use Rattle.arrow_bytes.specs.Pieces.{Around, nothing_around}
use Rattle.arrow_types.specs.declared.primitive_type.PrimitiveType.{PrimitiveType}
use Rattle.arrow_model.specs.Both.{Both, narrow_types, wide_types}
use Rattle.arrow_model.specs.Value.{Value, State, TableState, Types, layout}
use Rattle.arrow_model.specs.Item.{Stored, IsText, fits}
use Rattle.arrow_model.specs.Kind.{ValueKind, Shape, is_builder, is_var_binary, is_values_alone}

-- what lies around the slots: nothing unless they store bytes, and behind those of a builder nothing
pub record IsAround (s : Shape) (around : Around) : Type 0 where
  pub plain : is_var_binary s ≡ false → around ≡ nothing_around
  pub no_tail : is_builder s ≡ true → around.tail ≡ []

module _ {T : Type 0} where
  -- what slots of a value kind may store
  pub record IsStored (sort : ValueKind) (x : Stored T) : Type 0 where
    pub of_value_kind : fits sort x ≡ true
    pub text : IsText x

  -- a row of a column: where no mask is held its mark is set
  pub record IsRow (sort : ValueKind) (held : Bool) (row : Row (Stored T)) : Type 0 where
    pub stored : IsStored sort row.0
    pub marked : held ≡ false → row.1 ≡ true

  -- a value: its type is right for its kind, its rows store what is of its value kind, and a builder of values alone
  -- holds no mask
  pub record IsValue (c : Types T) (v : Value T) : Type 0 where
    pub right_type : IsRightType (layout c v.shape.value_kind) v.column.data_type
    pub around : IsAround v.shape v.column.around
    pub rows : All (IsRow v.shape.value_kind v.column.held) v.column.rows
    pub unmasked : is_values_alone v.shape ≡ true → v.column.held ≡ false

  -- each entry is empty or holds a value
  abbrev pub AreValues : Types T → State T → Type 0
  AreValues c state = All (λ entry. IfSome entry (IsValue c)) state

-- such a step or run, of what is allowed, keeps what holds of a state
abbrev pub Preserves : {S C A : Type 0} → (S → Type 0) → (C → Type 0) → (S → C → A → S → Type 0) → Type 0
Preserves {S} {C} {A} Holds IsAllowed Step =
    (old new : S) (asks : C) (reply : A) → IsAllowed asks → Holds old → Step old asks reply new → Holds new

-- each entry of a table, or of two, is empty or holds a value
abbrev pub HasValues : {T : Type 0} → Types T → TableState T → Type 0
HasValues c table = AreValues c table.entries

abbrev pub HaveValues : {T : Type 0} → T → PrimitiveType → Both T → Type 0
HaveValues zero primitive both =
    HasValues (narrow_types zero primitive) both.narrow × HasValues (wide_types zero primitive) both.wide
