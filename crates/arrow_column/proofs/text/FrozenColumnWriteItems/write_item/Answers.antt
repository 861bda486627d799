use Rattle.std.proofs.Common.{◌≡◌, ℕ, zero, suc, ◌<◌, not, List, [], ◌∷◌, length, map, slice_get, Some, None}
use Rattle.std.proofs.Common.{Option, refl, sym, ap, ◌∙◌, arith, inl, inr}
use Rattle.std.proofs.lemmas.List.{length-map}
use Rattle.std.proofs.lemmas.Option.{slice_get_cases}
use Rattle.arrow_memory.specs.Rows.{slot}
use Rattle.std.proofs.Output.{displays_on_ok_of_eq}
use Rattle.arrow_types.specs.ListText.{slot_at}
use Rattle.arrow_column.specs.Column.{slots_of, stored_values}
use Rattle.arrow_column.specs.SlotText.{debug_slot, debug_slots}
use Rattle.arrow_column.proofs.text.FrozenColumnWriteItems.write_item.Goals as goal

-- the text of what stands at a place, if anything does
found-text : {X : Type 0} → (X → Option (List ℕ)) → Option X → Option (List ℕ)
found-text h None = None
found-text h (Some x) = h x

text-found : {X : Type 0} (h : X → Option (List ℕ)) (xs : List X) (i : ℕ)
    → slot_at (map h xs) i ≡ found-text h (slice_get xs i)
unfolding found-text
text-found h [] i = refl
text-found h (x ∷ xs) zero = refl
text-found h (x ∷ xs) (suc i) = text-found h xs i

-- a valid slot is written as its value
same-text : {S : Type 0} (text : S → Option (List ℕ)) (stored : List S) (slots : List (Option S)) (i : ℕ)
    → i < length stored → ((value : S) → slice_get stored i ≡ Some value → slice_get slots i ≡ Some (Some value))
    → slot_at (map text stored) i ≡ slot_at (debug_slots text slots) i
unfolding found-text
same-text text stored slots i low shown = elim (slice_get_cases stored i).1 [
  | inl found ↦
      text-found text stored i ∙ ap (found-text text) found.2
      ∙ ap (found-text (debug_slot text)) (sym (shown found.0 found.2))
      ∙ sym (text-found (debug_slot text) slots i)
  | inr past ↦ absurd (omega (arith, low, past.0))
]

pub returns : goal.returns
returns g c =
    let column = c.args.self.now in
    let shown = c.is_null.ensures.valid (ap not c.if-is_null.false) in
    displays_on_ok_of_eq g.W.Write.write_str_gives c.args.f.now c.write_value.new.f c.write_value.result
    (slot_at (map g.V.WriteValues.text (stored_values column)) c.args.i)
    (slot_at (debug_slots g.V.WriteValues.text (slots_of column)) c.args.i)
    (same-text g.V.WriteValues.text (stored_values column) (slots_of column) c.args.i
    (omega (
      arith,
      c.requires,
      c.values.ensures.length,
      length-map (slots_of column) (debug_slot g.V.WriteValues.text),
      length-map column.rows slot,
      length-map column.rows (λ row. row.0),
    )) shown)
    (rw c.values.ensures.values at c.write_value.ensures)
