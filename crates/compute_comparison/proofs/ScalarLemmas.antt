-- Lemmas about logic of an array of booleans and one slot, the same for all.
use Rattle.std.proofs.Common.{◌≡◌, ◌&&◌, ℕ, Bool, true, false, List, [], ◌∷◌, length, map, replicate}
use Rattle.std.proofs.Common.{Option, Some, None, is_none, is_some, option_map, refl, sym, ap, ap₂, ◌∙◌, subst}
use Rattle.std.specs.List.{zip}
use Rattle.std.proofs.lemmas.List.{length-map}
use Rattle.arrow_types.proofs.CallerLemmas.{and-true}
use Rattle.arrow_boolean.specs.Fits.{boolean_type}
use Rattle.arrow_memory.specs.Rows.{FitsMask, Row, slot}
use Rattle.arrow_column.specs.Column.{Column, column_of_parts, null_column, slots_of, stored_values}
use Rattle.compute_base.specs.Slots.{MapsSlots, combine_valid}
use Rattle.compute_base.proofs.CallerLemmas.{count-mapped}
use Rattle.compute_comparison.specs.Kleene.{KeepsSlotValues, kleene_and, kleene_or, known_with_null}
use Rattle.compute_comparison.specs.Logic.{and_slots, or_slots}
use Rattle.compute_comparison.specs.Slots.{CombinesWithSlot, booleans}
use Rattle.compute_comparison.proofs.CallerLemmas.{slots-booleans}

-- as many marks as there are slots are what a constant makes of the stored values
pub same-for-all : {X : Type 0} (rows : List (Row X)) (value : Bool)
    → replicate (length rows) value ≡ map (λ x. value) (map (λ row. row.0) rows)
same-for-all [] value = refl
same-for-all (x ∷ rows) value = ap (λ rest. value ∷ rest) (same-for-all rows value)

-- ---- a scalar that is not null and keeps or replaces valid slots

pub and-true-slot : (s : Option Bool) → option_map (λ x. x) s ≡ and_slots s (Some true)
and-true-slot (Some true) = refl
and-true-slot (Some false) = refl
and-true-slot None = refl

pub and-false-slot : (s : Option Bool) → option_map (λ x. false) s ≡ and_slots s (Some false)
and-false-slot (Some true) = refl
and-false-slot (Some false) = refl
and-false-slot None = refl

pub or-false-slot : (s : Option Bool) → option_map (λ x. x) s ≡ or_slots s (Some false)
or-false-slot (Some true) = refl
or-false-slot (Some false) = refl
or-false-slot None = refl

pub or-true-slot : (s : Option Bool) → option_map (λ x. true) s ≡ or_slots s (Some true)
or-true-slot (Some true) = refl
or-true-slot (Some false) = refl
or-true-slot None = refl

pub known-and-true : (s : Option Bool) → option_map (λ x. x) s ≡ kleene_and s (Some true)
known-and-true (Some true) = refl
known-and-true (Some false) = refl
known-and-true None = refl

pub known-or-false : (s : Option Bool) → option_map (λ x. x) s ≡ kleene_or s (Some false)
known-or-false (Some true) = refl
known-or-false (Some false) = refl
known-or-false None = refl

-- what is made of the slots alone is made of them and a scalar, beside which a null stays null
pub by-scalar : (table : Option Bool → Option Bool → Option Bool) (f : Option Bool → Option Bool) (array : Column Bool)
    (scalar : Option Bool) (value : Bool) (made : Column Bool) → scalar ≡ Some value
    → ((s : Option Bool) → f s ≡ table s (Some value)) → is_none (table None (Some value)) ≡ true
    → MapsSlots boolean_type f array made → CombinesWithSlot table array scalar made
by-scalar table f array scalar value made is agree null maps =
    let combines : CombinesWithSlot table array (Some value) made = record {
      data_type = maps.data_type;
      count = maps.count;
      slots = maps.slots ∙ (λ i. map (λ s. agree s i) (slots_of array));
      held = maps.held ∙ sym (and-true array.held) ∙ ap (λ b. array.held && b) (sym null);
    } in
    subst (λ s. CombinesWithSlot table array s made) (sym is) combines

-- ---- a scalar that decides every slot

pub known-and-false : (s : Option Bool) → Some false ≡ kleene_and s (Some false)
known-and-false (Some true) = refl
known-and-false (Some false) = refl
known-and-false None = refl

pub known-or-true : (s : Option Bool) → Some true ≡ kleene_or s (Some true)
known-or-true (Some true) = refl
known-or-true (Some false) = refl
known-or-true None = refl

and-false : (b : Bool) → false ≡ (b && false)
and-false true = refl
and-false false = refl

module _ (table : Option Bool → Option Bool → Option Bool) (value : Bool)
    (agree : (s : Option Bool) → Some value ≡ table s (Some value)) where
  all-decided : (rows : List (Row Bool))
      → map Some (replicate (length rows) value) ≡ map (λ s. table s (Some value)) (map slot rows)
  all-decided [] = refl
  all-decided (x ∷ rows) = ap₂ (λ s rest. s ∷ rest) (agree (slot x)) (all-decided rows)

  pub decided : (array : Column Bool) (scalar : Option Bool) (n : ℕ) (made : Column Bool) → scalar ≡ Some value
      → n ≡ length array.rows → made ≡ booleans (replicate n value) → CombinesWithSlot table array scalar made
  decided array scalar n made is count made_is =
      let shown : slots_of made ≡ map (λ s. table s (Some value)) (slots_of array) =
      ap (λ column. slots_of column) made_is ∙ slots-booleans (replicate n value)
      ∙ ap (λ m. map Some (replicate m value)) count ∙ all-decided array.rows in
      let combines : CombinesWithSlot table array (Some value) made = record {
        data_type = ap (λ column. column.data_type) made_is;
        count = count-mapped (λ s. table s (Some value)) array made shown;
        slots = shown;
        held = ap (λ column. column.held) made_is ∙ and-false array.held
            ∙ ap (λ s. array.held && is_none s) (agree None);
      } in
      subst (λ s. CombinesWithSlot table array s made) (sym is) combines

-- ---- a scalar that is null

module _ (op : Bool → Bool → Bool) where
  null-beside : (s : Option Bool) → None ≡ combine_valid op s None
  null-beside (Some x) = refl
  null-beside None = refl

  all-null : (rows : List (Row Bool))
      → map slot (zip (replicate (length rows) false) (replicate (length rows) false))
      ≡ map (λ s. combine_valid op s None) (map slot rows)
  all-null [] = refl
  all-null (x ∷ rows) = ap₂ (λ s rest. s ∷ rest) (null-beside (slot x)) (all-null rows)

  pub makes-null : (array : Column Bool) (scalar : Option Bool) (n : ℕ) (made : Column Bool) → scalar ≡ None
      → n ≡ length array.rows → made ≡ null_column boolean_type tt false n
      → CombinesWithSlot (combine_valid op) array scalar made
  makes-null array scalar n made is count made_is =
      let shown : slots_of made ≡ map (λ s. combine_valid op s None) (slots_of array) =
      ap (λ column. slots_of column) made_is
      ∙ ap (λ m. map slot (zip (replicate m false) (replicate m false))) count ∙ all-null array.rows in
      let combines : CombinesWithSlot (combine_valid op) array None made = record {
        data_type = ap (λ column. column.data_type) made_is;
        count = count-mapped (λ s. combine_valid op s None) array made shown;
        slots = shown;
        held = ap (λ column. column.held) made_is;
      } in
      subst (λ s. CombinesWithSlot (combine_valid op) array s made) (sym is) combines

module _ (table : Option Bool → Option Bool → Option Bool) (beside : KeepsSlotValues table) where
  with-null : (rows : List (Row Bool))
      → map slot (zip (map (λ row. row.0) rows) (known_with_null table (map slot rows)))
      ≡ map (λ s. table s None) (map slot rows)
  with-null [] = refl
  with-null ((v, m) ∷ rows) = ap₂ (λ s rest. s ∷ rest) (beside v m) (with-null rows)

  pub makes-with-null : (array : Column Bool) (values known : List Bool) (made : Column Bool)
      → values ≡ stored_values array → known ≡ known_with_null table (slots_of array)
      → made ≡ column_of_parts boolean_type values (Some known) → CombinesWithSlot table array None made
  makes-with-null array values known made is known_is made_is =
      let shown : slots_of made ≡ map (λ s. table s None) (slots_of array) =
      ap (λ column. slots_of column) made_is ∙ ap₂ (λ vs ms. map slot (zip vs ms)) is known_is ∙ with-null array.rows in
      record {
        data_type = ap (λ column. column.data_type) made_is;
        count = count-mapped (λ s. table s None) array made shown;
        slots = shown;
        held = ap (λ column. column.held) made_is;
      }

module _ (table : Option Bool → Option Bool → Option Bool) (array : Column Bool) where
  pub length-with_null : length (known_with_null table (slots_of array)) ≡ length array.rows
  length-with_null = length-map (slots_of array) (λ s. is_some (table s None)) ∙ length-map array.rows slot

  pub fits-with_null : (values known : List Bool) → values ≡ stored_values array
      → known ≡ known_with_null table (slots_of array) → FitsMask values (Some known)
  fits-with_null values known is known_is = ap length known_is ∙ length-with_null
      ∙ sym (ap length is ∙ length-map array.rows (λ row. row.0))
