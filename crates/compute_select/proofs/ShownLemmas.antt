-- Arrays that store what slots show.
use Rattle.std.proofs.Common.{◌≡◌, ◌∙◌, suc, Bool, true, false, if◌then◌else◌, not, List, [], ◌∷◌, map, length, Option, Some, None, is_some, refl, ap, sym, subst}
use Rattle.std.specs.Prelude.{⊤, IfSome}
use Rattle.std.specs.List.{list_all, zip}
use Rattle.std.proofs.lemmas.List.{length-map}
use Rattle.arrow_types.specs.Types.{LogicalType}
use Rattle.arrow_memory.specs.Rows.{FitsMask, Row, slot}
use Rattle.arrow_column.specs.Column.{ColumnWith, column_with, stored_values, with_mask}
use Rattle.arrow_column.specs.Combined.{MakesSlots}
use Rattle.compute_select.specs.Selects.{mask_shown}

-- stored values are what slots show, each at its place; what is stored of a null may be anything
abbrev pub StoresShown : {X : Type 0} → List X → List (Option X) → Type 0
StoresShown [] [] = ⊤
StoresShown [] (shown ∷ slots) = ⊥
StoresShown (v ∷ vs) [] = ⊥
StoresShown (v ∷ vs) (Some x ∷ slots) = (v ≡ x) × StoresShown vs slots
StoresShown (v ∷ vs) (None ∷ slots) = StoresShown vs slots

pub stores-length : {X : Type 0} (vs : List X) (slots : List (Option X)) → StoresShown vs slots → length vs ≡ length slots
stores-length [] [] stores = refl
stores-length [] (shown ∷ slots) stores = absurd stores
stores-length (v ∷ vs) [] stores = absurd stores
stores-length (v ∷ vs) (Some x ∷ slots) stores = ap (λ n. suc n) (stores-length vs slots stores.1)
stores-length (v ∷ vs) (None ∷ slots) stores = ap (λ n. suc n) (stores-length vs slots stores)

masked-slots : {X : Type 0} (vs : List X) (slots : List (Option X)) → StoresShown vs slots
    → map slot (zip vs (map is_some slots)) ≡ slots
masked-slots [] [] stores = refl
masked-slots [] (shown ∷ slots) stores = absurd stores
masked-slots (v ∷ vs) [] stores = absurd stores
masked-slots (v ∷ vs) (Some x ∷ slots) stores =
    ap (λ w. Some w ∷ map slot (zip vs (map is_some slots))) stores.0
    ∙ ap (λ rest. Some x ∷ rest) (masked-slots vs slots stores.1)
masked-slots (v ∷ vs) (None ∷ slots) stores = ap (λ rest. None ∷ rest) (masked-slots vs slots stores)

bare-slots : {X : Type 0} (vs : List X) (slots : List (Option X)) → StoresShown vs slots
    → list_all (λ mark. mark) (map is_some slots) ≡ true → map slot (map (λ value. (value, true)) vs) ≡ slots
bare-slots [] [] stores valid = refl
bare-slots [] (shown ∷ slots) stores valid = absurd stores
bare-slots (v ∷ vs) [] stores valid = absurd stores
bare-slots (v ∷ vs) (Some x ∷ slots) stores valid =
    ap (λ w. Some w ∷ map slot (map (λ value. (value, true)) vs)) stores.0
    ∙ ap (λ rest. Some x ∷ rest) (bare-slots vs slots stores.1 valid)
bare-slots (v ∷ vs) (None ∷ slots) stores valid = cc

masked-valid : {X : Type 0} (vs : List X) (slots : List (Option X)) → StoresShown vs slots
    → list_all (λ (row : Row X). row.1) (zip vs (map is_some slots)) ≡ list_all (λ mark. mark) (map is_some slots)
masked-valid [] [] stores = refl
masked-valid [] (shown ∷ slots) stores = absurd stores
masked-valid (v ∷ vs) [] stores = absurd stores
masked-valid (v ∷ vs) (Some x ∷ slots) stores = masked-valid vs slots stores.1
masked-valid (v ∷ vs) (None ∷ slots) stores = refl

bare-valid : {X : Type 0} (vs : List X) → list_all (λ (row : Row X). row.1) (map (λ value. (value, true)) vs) ≡ true
bare-valid [] = refl
bare-valid (v ∷ vs) = bare-valid vs

module _ {A X : Type 0} (t : LogicalType) (around : A) (vs : List X) (slots : List (Option X))
    (stores : StoresShown vs slots) where
  abbrev made_if : Bool → ColumnWith A X
  made_if b = column_with t around vs (if b then None else Some (map is_some slots))

  makes-if : (b : Bool) → list_all (λ mark. mark) (map is_some slots) ≡ b → MakesSlots t slots (made_if b)
  makes-if true valid = record {
    data_type = refl;
    slots = bare-slots vs slots stores valid;
    held = sym (ap not (bare-valid vs));
  }
  makes-if false valid = record {
    data_type = refl;
    slots = masked-slots vs slots stores;
    held = sym (ap not (masked-valid vs slots stores ∙ valid));
  }

  pub makes-shown : MakesSlots t slots (column_with t around vs (mask_shown slots))
  makes-shown = makes-if (list_all (λ mark. mark) (map is_some slots)) refl

fits-if : {X : Type 0} (vs : List X) (slots : List (Option X)) → StoresShown vs slots → (b : Bool)
    → FitsMask vs (if b then None else Some (map is_some slots))
fits-if vs slots stores true = tt
fits-if vs slots stores false = length-map slots is_some ∙ sym (stores-length vs slots stores)

-- values and a mask that are those of slots fit each other, and make an array of the slots
pub fits-shown : {X : Type 0} (slots : List (Option X)) (vs ws : List X) (mask : Option (List Bool)) → vs ≡ ws
    → mask ≡ mask_shown slots → StoresShown ws slots → FitsMask vs mask
fits-shown slots vs ws mask e f stores =
    subst (λ xs. FitsMask xs mask) (sym e) (subst (λ m. FitsMask ws m) (sym f)
    (fits-if ws slots stores (list_all (λ mark. mark) (map is_some slots))))

pub made-shown : {A X : Type 0} (t u : LogicalType) (around : A) (slots : List (Option X)) (vs ws : List X)
    (mask : Option (List Bool)) (made : ColumnWith A X) → made ≡ column_with t around vs mask → t ≡ u → vs ≡ ws
    → mask ≡ mask_shown slots → StoresShown ws slots → MakesSlots u slots made
made-shown t u around slots vs ws mask made is same e f stores =
    subst (λ c. MakesSlots u slots c)
    (sym (is ∙ ap (λ v. column_with v around vs mask) same ∙ ap (λ xs. column_with u around xs mask) e
    ∙ ap (λ m. column_with u around ws m) f))
    (makes-shown u around ws slots stores)

-- the mask of slots has as many marks as an equal column has rows
pub fits-rows : {A X : Type 0} (column copy : ColumnWith A X) (slots : List (Option X)) (mask : Option (List Bool))
    → copy ≡ column → mask ≡ mask_shown slots → StoresShown (stored_values column) slots
    → IfSome mask (λ marks. length marks ≡ length copy.rows)
fits-rows column copy slots None is e stores = tt
fits-rows column copy slots (Some marks) is e stores =
    fits-shown slots (stored_values column) (stored_values column) (Some marks) refl e stores
    ∙ length-map column.rows (λ row. row.0) ∙ ap (λ c. length c.rows) (sym is)

pub masked-shown : {A X : Type 0} (column copy made : ColumnWith A X) (slots : List (Option X)) (mask : Option (List Bool))
    → copy ≡ column → made ≡ with_mask copy mask → mask ≡ mask_shown slots → StoresShown (stored_values column) slots
    → MakesSlots column.data_type slots made
masked-shown column copy made slots mask same is e stores =
    made-shown column.data_type column.data_type column.around slots (stored_values column) (stored_values column) mask
    made (is ∙ ap (λ c. with_mask c mask) same) refl refl e stores
