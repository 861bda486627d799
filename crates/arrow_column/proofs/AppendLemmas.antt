-- What appends of slots come to.
use Rattle.std.proofs.Common.{◌≡◌, Bool, true, false, not, ◌&&◌, List, [], ◌∷◌, ◌++◌, map, Option, Some, None}
use Rattle.std.proofs.Common.{option_map, refl, sym, ap, ap₂, ◌∙◌}
use Rattle.std.proofs.lemmas.Bool.{and_parts}
use Rattle.std.proofs.lemmas.Iterator.Adapters.{option_map_id}
use Rattle.arrow_column.specs.Appends.{AppendsSlots}
use Rattle.arrow_column.specs.Column.{ColumnWith, append_slot, append_slots, slot_overflows, slots_fit}

-- slots of values that are stored as they are
pub same-slots : {X : Type 0} (slots : List (Option X)) → map (option_map (λ x. x)) slots ≡ slots
same-slots [] = refl
same-slots (slot ∷ slots) = ap₂ (λ first rest. first ∷ rest) (option_map_id slot) (same-slots slots)

-- no slot is more than a vector can count
pub never-over : {A S X : Type 0} (column : ColumnWith A S) (slot : Option X)
    → slot_overflows (λ _ _ _. false) column slot ≡ false
never-over column None = refl
never-over column (Some x) = refl

-- a slot that is appended behind others
module _ {A S X : Type 0} (overflows : A → List S → X → Bool) (shown : X → S) (default : S) where
  appended-more : (column : ColumnWith A S) (xs : List (Option X)) (x : Option X)
      → append_slots default column (map (option_map shown) (xs ++ x ∷ []))
      ≡ append_slot default (append_slots default column (map (option_map shown) xs)) (option_map shown x)
  appended-more column [] x = refl
  appended-more column (y ∷ xs) x = appended-more (append_slot default column (option_map shown y)) xs x

  pub fit-more : (column : ColumnWith A S) (xs : List (Option X)) (x : Option X)
      → slots_fit overflows shown default column xs ≡ true
      → slot_overflows overflows (append_slots default column (map (option_map shown) xs)) x ≡ false
      → slots_fit overflows shown default column (xs ++ x ∷ []) ≡ true
  fit-more column [] x fit last = ap (λ b. not b && true) last
  fit-more column (y ∷ xs) x fit last =
      let next = append_slot default column (option_map shown y) in
      let parts = and_parts (not (slot_overflows overflows column y)) (slots_fit overflows shown default next xs) fit in
      ap₂ ◌&&◌ parts.0 (fit-more next xs x parts.1 last)

  -- and the slots that are then appended
  pub one-more : (column grown next : ColumnWith A S) (xs ys : List (Option X)) (x : Option X) → ys ≡ xs ++ x ∷ []
      → AppendsSlots overflows shown default column xs grown
      → (slot_overflows overflows grown x ≡ false) × (next ≡ append_slot default grown (option_map shown x))
      → AppendsSlots overflows shown default column ys next
  one-more column grown next xs ys x e so_far pushed = (
    ap (slots_fit overflows shown default column) e
        ∙ fit-more column xs x so_far.0 (ap (λ whole. slot_overflows overflows whole x) (sym so_far.1) ∙ pushed.0),
    pushed.1 ∙ ap (λ whole. append_slot default whole (option_map shown x)) so_far.1
        ∙ sym (ap (λ zs. append_slots default column (map (option_map shown) zs)) e ∙ appended-more column xs x),
  )
