-- Lemmas about arrays of which the stored values and the marks are made apart.
use Rattle.std.proofs.Common.{◌≡◌, ◌∙◌, ℕ, ◌+◌, Bool, true, false, if◌then◌else◌, List, [], ◌∷◌, ◌++◌}
use Rattle.std.proofs.Common.{map, take, length, Option, Some, None, is_some, option_map, slice_get, unwrap_or}
use Rattle.std.proofs.Common.{refl, ap, ap₂, sym, append_assoc, count_by, not}
use Rattle.std.specs.List.{list_all}
use Rattle.std.proofs.lemmas.List.{append-nil, length-map, map-append, map_push}
use Rattle.std.proofs.lemmas.List.Folds.{list_all-map}
use Rattle.std.proofs.lemmas.Bool.{not-false}
use Rattle.arrow_types.proofs.CallerLemmas.{all-by_count, map-map, take-next}
use Rattle.arrow_memory.specs.Rows.{FitsMask, Row, slot}
use Rattle.arrow_column.specs.Column.{ColumnWith, all_valid, append_slot, append_slots, column_with, marks_of}
use Rattle.arrow_column.specs.Column.{mask_of, stored_values, without_needless_mask}
use Rattle.arrow_column.specs.Masks.{mask_with_nulls}
use Rattle.arrow_column.proofs.CallerLemmas.{parts_again}
use Rattle.compute_base.specs.Slots.{stored_of, valid_of}

-- ---- lists

-- what is made of the elements before an index, and of the one at it
pub map-next : {X Y : Type 0} (f : X → Y) (xs : List X) (i : ℕ) (x : X) → slice_get xs i ≡ Some x
    → map f (take (i + 1) xs) ≡ map f (take i xs) ++ f x ∷ []
map-next f xs i x found = ap (map f) (take-next xs i x found) ∙ map_push f (take i xs) x

-- ---- masks

if-not : {X : Type 0} (b : Bool) (x y : X) → (if not b then x else y) ≡ (if b then y else x)
if-not true x y = refl
if-not false x y = refl

held-mask : (held : Bool) (mask marks : List Bool) → Some mask ≡ (if held then Some marks else None)
    → Some mask ≡ Some marks
held-mask true mask marks e = e
held-mask false mask marks e = absurd cc

module _ {A S : Type 0} (column : ColumnWith A S) where
  -- the mask of an array that holds none without need, by its marks
  pub mask-needed : mask_of (without_needless_mask column) ≡ mask_with_nulls (Some (marks_of column))
  mask-needed =
      if-not (all_valid column) (Some (marks_of column)) None
      ∙ ap (λ b. if b then None else Some (marks_of column))
      (sym (list_all-map (λ mark. mark) (λ (row : Row S). row.1) column.rows))

  -- where no slot is null there is none
  pub mask-absent : count_by not (marks_of column) ≡ 0 → None ≡ mask_of (without_needless_mask column)
  mask-absent none =
      sym (mask-needed ∙ ap (λ b. if b then None else Some (marks_of column)) ((all-by_count (marks_of column)).0 none))

  -- where a slot is null it is the mask that is held
  pub mask-present : (mask : List Bool) → (count_by not (marks_of column) ≡ 0 → ⊥) → Some mask ≡ mask_of column
      → Some mask ≡ mask_of (without_needless_mask column)
  mask-present mask some held =
      held-mask column.held mask (marks_of column) held
      ∙ sym (mask-needed
      ∙ ap (λ b. if b then None else Some (marks_of column)) ((all-by_count (marks_of column)).1 some))

  again : column_with column.data_type column.around (stored_values column) (mask_with_nulls (Some (marks_of column)))
      ≡ without_needless_mask column
  again =
      ap (column_with column.data_type column.around (stored_values column)) (sym mask-needed)
      ∙ parts_again (without_needless_mask column) (not-false (all_valid column))

fits-if : {S : Type 0} (b : Bool) (values : List S) (marks : List Bool) → length marks ≡ length values
    → FitsMask values (if b then None else Some marks)
fits-if true values marks same = tt
fits-if false values marks same = same

-- a mask that is held only if a slot is null fits as many values
pub needed-fits : {S : Type 0} (values : List S) (marks : List Bool) → length marks ≡ length values
    → FitsMask values (mask_with_nulls (Some marks))
needed-fits values marks same = fits-if (list_all (λ mark. mark) marks) values marks same

pub parts-fit : {S : Type 0} (default : S) (slots : List (Option S))
    → FitsMask (stored_of default slots) (mask_with_nulls (Some (valid_of slots)))
parts-fit default slots = needed-fits (stored_of default slots) (valid_of slots)
    (length-map slots is_some ∙ sym (length-map slots (λ slot. unwrap_or slot default)))

-- ---- columns of appended slots

abbrev row_of : {S : Type 0} → S → Option S → Row S
row_of default shown = (unwrap_or shown default, is_some shown)

module _ {A S : Type 0} (default : S) where
  appended-rows : (column : ColumnWith A S) (slots : List (Option S))
      → without_needless_mask (append_slots default column slots)
      ≡ without_needless_mask (record column { rows = column.rows ++ map (row_of default) slots })
  appended-rows column [] =
      ap (λ rows. without_needless_mask (record column { rows = rows })) (sym (append-nil column.rows))
  appended-rows column (None ∷ slots) =
      appended-rows (append_slot default column None) slots
      ∙ ap (λ rows. without_needless_mask (record column { rows = rows }))
      (append_assoc column.rows ((default, false) ∷ []) (map (row_of default) slots))
  appended-rows column (Some x ∷ slots) =
      appended-rows (append_slot default column (Some x)) slots
      ∙ ap (λ rows. without_needless_mask (record column { rows = rows }))
      (append_assoc column.rows ((x, true) ∷ []) (map (row_of default) slots))

  -- what appended slots store, and what lies around it
  pub appended-stored : (column : ColumnWith A S) (slots : List (Option S))
      → stored_values (append_slots default column slots)
      ≡ stored_values column ++ stored_of default slots
  appended-stored column [] = sym (append-nil (stored_values column))
  appended-stored column (None ∷ slots) =
      appended-stored (append_slot default column None) slots
      ∙ ap (λ front. front ++ stored_of default slots)
      (map-append (λ row. row.0) column.rows ((default, false) ∷ []))
      ∙ append_assoc (stored_values column) (default ∷ []) (stored_of default slots)
  appended-stored column (Some x ∷ slots) =
      appended-stored (append_slot default column (Some x)) slots
      ∙ ap (λ front. front ++ stored_of default slots)
      (map-append (λ row. row.0) column.rows ((x, true) ∷ []))
      ∙ append_assoc (stored_values column) (x ∷ []) (stored_of default slots)

  pub appended-around : (column : ColumnWith A S) (slots : List (Option S))
      → (append_slots default column slots).around ≡ column.around
  appended-around column [] = refl
  appended-around column (None ∷ slots) = appended-around (append_slot default column None) slots
  appended-around column (Some x ∷ slots) = appended-around (append_slot default column (Some x)) slots

-- ---- an array of values and marks

module _ {A S : Type 0} (default : S) (column : ColumnWith A S) (slots : List (Option S)) where
  abbrev made : ColumnWith A S
  made = record column { rows = map (row_of default) slots }

  pub array-of-parts : column.rows ≡ []
      → column_with column.data_type column.around (stored_of default slots) (mask_with_nulls (Some (valid_of slots)))
      ≡ without_needless_mask (append_slots default column slots)
  array-of-parts none =
      ap₂ (λ values marks. column_with column.data_type column.around values (mask_with_nulls (Some marks)))
      (sym (map-map (λ (row : Row S). row.0) (row_of default) slots))
      (sym (map-map (λ (row : Row S). row.1) (row_of default) slots))
      ∙ again made
      ∙ ap (λ rows. without_needless_mask (record column { rows = rows ++ map (row_of default) slots })) (sym none)
      ∙ sym (appended-rows default column slots)

-- what is made of the slots of an array has its marks
pub same-marks : {S X : Type 0} (f : S → X) (rows : List (Row S))
    → valid_of (map (option_map f) (map slot rows)) ≡ map (λ row. row.1) rows
same-marks f [] = refl
same-marks f ((x, true) ∷ rows) = ap (λ rest. true ∷ rest) (same-marks f rows)
same-marks f ((x, false) ∷ rows) = ap (λ rest. false ∷ rest) (same-marks f rows)
