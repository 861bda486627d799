-- How the values of entries change.
use Rattle.std.specs.Prelude.{◌≡◌, ℕ, ◌+◌, ◌-◌, suc, Bool, false, List, [], ◌∷◌, length, map, take, drop, replicate}
use Rattle.std.specs.Prelude.{Option, Some, None, slice_get, if◌then◌else◌}
use Rattle.std.specs.List.{concat}
use Rattle.arrow_column.specs.Column.{ColumnWith, column_with, cut_with, append_slots, slot_overflows, stored_values}
use Rattle.arrow_column.specs.Column.{without_last, without_needless_mask, with_mask}
use Rattle.arrow_types.specs.Types.{LogicalType}
use Rattle.arrow_check.specs.Pieces.{bytes_of, offsets_of}
use Rattle.arrow_bytes.specs.Pieces.{Around, nothing_around, around_cut, overflows_by}
use Rattle.arrow_bytes.specs.Column.{item_overflows}
use Rattle.arrow_model.specs.declared.item.Turn.{Turn}
use Rattle.arrow_model.specs.declared.item.Turn.TheVariants as turn
use Rattle.arrow_model.specs.Kind.{Shape, shaped, frozen, with_nulls, is_boolean, is_native, is_nullable}
use Rattle.arrow_model.specs.Item.{Stored, stored_bytes}
use Rattle.arrow_model.specs.Value.{Value, Types, default_type, default_item}

-- what each turn of an iterator over these items gives
abbrev pub turns_of : {S : Type 0} → List Turn → List S → List (Option S)
turns_of [] items = []
turns_of (turn.Front ∷ turns) items = slice_get items 0 ∷ turns_of turns (drop 1 items)
turns_of (turn.Back ∷ turns) items = slice_get items (length items - 1) ∷ turns_of turns (take (length items - 1) items)
turns_of (turn.Skip n ∷ turns) items = slice_get items n ∷ turns_of turns (drop (n + 1) items)

-- one turn gives this of these items, and the others are left
abbrev pub TurnGives : {S : Type 0} → Turn → List S → Option S → List S → Type 0
TurnGives turn items given rest = (more : List Turn) → turns_of (turn ∷ more) items ≡ given ∷ turns_of more rest

module _ {T : Type 0} where
  -- another column of the same kind
  abbrev pub with_column : Value T → ColumnWith Around (Stored T) → Value T
  with_column v column = record { shape = v.shape; column = column }

  -- the same slots under another mask, or under none
  abbrev pub with_value_mask : Value T → Option (List Bool) → Value T
  with_value_mask v mask = with_column v (with_mask v.column mask)

  -- all slots but the last
  abbrev pub without_last_slot : Value T → Value T
  without_last_slot v = with_column v (without_last v.column)

  -- the n rows from place a on: the items around them become part of lead and tail
  abbrev pub cut_value : Value T → ℕ → ℕ → Value T
  cut_value v a n = with_column v (cut_with (λ around items. around_cut around (map stored_bytes items)) v.column a n)

  -- the same slots, with nothing behind them
  abbrev pub trimmed_column : Value T → ColumnWith Around (Stored T)
  trimmed_column v = record v.column { around = record v.column.around { tail = [] } }

  -- the array of the same slots, with nothing behind them: a mask is held exactly where a slot is null; of
  -- booleans, where it was
  abbrev pub frozen_value : Value T → Value T
  frozen_value v = record {
    shape = shaped frozen v.shape.value_kind;
    column = if is_boolean v.shape then trimmed_column v else without_needless_mask (trimmed_column v);
  }

  -- the builder of the same slots, with nothing behind them
  abbrev pub thawed_value : Value T → Value T
  thawed_value v = record { shape = shaped with_nulls v.shape.value_kind; column = trimmed_column v }

  -- the same slots in a builder with nulls, which holds no mask
  abbrev pub nullable_value : Value T → Value T
  nullable_value v = record { shape = shaped with_nulls v.shape.value_kind; column = v.column }

  -- all bytes, those around the slots too; and where each slot begins and ends in them
  abbrev pub all_bytes : Value T → List ℕ
  all_bytes v = bytes_of v.column.around.lead (map stored_bytes (stored_values v.column)) v.column.around.tail

  abbrev pub all_offsets : Value T → List ℕ
  all_offsets v = offsets_of (length v.column.around.lead) (map stored_bytes (stored_values v.column))

  module _ (c : Types T) where
    -- a value of this kind with no slot and no mask
    abbrev pub empty_value : Shape → Value T
    empty_value s = record { shape = s; column = column_with (default_type c s.value_kind) nothing_around [] None }

    -- the same, to which slots are to be appended: one of native values holds a mask from the first
    abbrev pub slots_start : Shape → Value T
    slots_start s = with_column (empty_value s)
        (column_with (default_type c s.value_kind) nothing_around [] (if is_native s then Some [] else None))

    -- an array of nulls under a type
    abbrev pub nulls_value : Shape → LogicalType → ℕ → Value T
    nulls_value s t n = with_column (empty_value s)
        (column_with t nothing_around (replicate n (default_item c s.value_kind)) (Some (replicate n false)))

    -- what a null stores there
    abbrev pub null_in : Value T → Stored T
    null_in v = default_item c v.shape.value_kind

    -- these slots more
    abbrev pub grown : Value T → List (Option (Stored T)) → Value T
    grown v slots = with_column v (append_slots (null_in v) v.column slots)

    -- a null more, or an empty item if there are no nulls
    abbrev pub null_slot : Value T → Option (Stored T)
    null_slot v = if is_nullable v.shape then None else Some (null_in v)

    abbrev pub null_pushed : Value T → Value T
    null_pushed v = grown v (null_slot v ∷ [])

    -- whether an item, or a slot, would end past the greatest offset
    abbrev pub item_over : Around → List (Stored T) → Stored T → Bool
    item_over around items x = item_overflows stored_bytes c.most around (map stored_bytes items) x

    abbrev pub slot_over : Value T → Option (Stored T) → Bool
    slot_over v x = slot_overflows item_over v.column x

    -- whether the rows of w, appended to v, would end past the greatest offset
    abbrev pub join_over : Value T → Value T → Bool
    join_over v w = overflows_by c.most v.column.around (map stored_bytes (stored_values v.column))
        (length (concat (map stored_bytes (stored_values w.column))))

    -- how many of these slots can be appended before one would end past the greatest offset
    abbrev pub fitting : Value T → List (Option (Stored T)) → ℕ
    fitting v [] = 0
    fitting v (x ∷ slots) = if slot_over v x then 0 else suc (fitting (grown v (x ∷ [])) slots)
