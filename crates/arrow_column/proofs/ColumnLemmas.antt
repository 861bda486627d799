-- Lemmas about columns.
use Rattle.std.proofs.Common.{◌≡◌, ℕ, zero, suc, ◌<◌, Bool, true, false, IsTrue, if◌then◌else◌}
use Rattle.std.proofs.Common.{ap₂, List, [], ◌∷◌, ◌++◌, length, map}
use Rattle.std.proofs.Common.{get_or, slice_get, Option, Some, None, option_and_then, refl, sym, ap}
use Rattle.std.proofs.Common.{◌∙◌, arith, append_assoc}
use Rattle.std.specs.Prelude.{not, replicate}
use Rattle.std.specs.List.{list_all, zip}
use Rattle.std.proofs.lemmas.Bool.{and_parts}
use Rattle.std.proofs.lemmas.Option.{slice_get-get_or}
use Rattle.std.proofs.lemmas.List.{length-map, append-nil, map-id}
use Rattle.arrow_types.specs.Types.{LogicalType}
use Rattle.arrow_memory.specs.Rows.{FitsMask, IsValidAt, Row, slot, rows_of}
use Rattle.arrow_column.specs.Column.{ColumnWith, IsColumn, column_with, append_nulls, append_slot}
use Rattle.arrow_column.specs.Column.{append_slots, append_values, last_slot, without_needless_mask, without_last}
use Rattle.arrow_column.proofs.RowLemmas.{last-push, null-at, rest-push, slot-at}

-- ---- columns

-- rows whose marks are set show their values
pub slots_valid : {S : Type 0} (rows : List (Row S)) → IsTrue (list_all (λ row. row.1) rows)
    → map slot rows ≡ map Some (map (λ row. row.0) rows)
slots_valid [] h = refl
slots_valid (row ∷ rows) h =
    let set : row.1 ≡ true = (and_parts row.1 _ h).0 in
    ap₂ ◌∷◌ (ap (λ v. slot (row.0, v)) set) (slots_valid rows (and_parts row.1 _ h).1)

pub rows-valid : {S : Type 0} (rows : List (Row S)) → IsTrue (list_all (λ row. row.1) rows)
    → rows_of (map (λ row. row.0) rows) None ≡ rows
rows-valid [] h = refl
rows-valid (row ∷ rows) h =
    let set : row.1 ≡ true = (and_parts row.1 _ h).0 in
    ap₂ ◌∷◌ (ap (λ v. (row.0, v)) (sym set)) (rows-valid rows (and_parts row.1 _ h).1)

rows_marked : {S : Type 0} (rows : List (Row S))
    → rows_of (map (λ row. row.0) rows) (Some (map (λ row. row.1) rows)) ≡ rows
rows_marked [] = refl
rows_marked (row ∷ rows) = ap (λ rest. row ∷ rest) (rows_marked rows)

pub rows_by_held : {S : Type 0} (held : Bool) (rows : List (Row S))
    → (held ≡ false → IsTrue (list_all (λ row. row.1) rows))
    → rows_of (map (λ row. row.0) rows) (if held then Some (map (λ row. row.1) rows) else None) ≡ rows
rows_by_held true rows h = rows_marked rows
rows_by_held false rows h = rows-valid rows (h refl)

pub fits_by_held : {S : Type 0} (held : Bool) (rows : List (Row S))
    → FitsMask (map (λ row. row.0) rows) (if held then Some (map (λ row. row.1) rows) else None)
fits_by_held true rows = length-map rows (λ row. row.1) ∙ sym (length-map rows (λ row. row.0))
fits_by_held false rows = tt

pub column_again : {A S : Type 0} (t : LogicalType) (around : A) (held : Bool) (rows : List (Row S))
    → (held ≡ false → IsTrue (list_all (λ row. row.1) rows))
    → column_with t around (map (λ row. row.0) rows) (if held then Some (map (λ row. row.1) rows) else None)
    ≡ record { data_type = t; around = around; rows = rows; held = held }
column_again t around true rows h = ap (λ xs. record { data_type = t; around = around; rows = xs; held = true })
    (rows_marked rows)
column_again t around false rows h = ap (λ xs. record { data_type = t; around = around; rows = xs; held = false })
    (rows-valid rows (h refl))

pub valid_by_held : (held : Bool) {S : Type 0} (rows : List (Row S))
    → (held ≡ false → IsTrue (list_all (λ row. row.1) rows))
    → (if held then Some (map (λ row. row.1) rows) else None) ≡ None → IsTrue (list_all (λ row. row.1) rows)
valid_by_held true rows h none = cc
valid_by_held false rows h none = h refl

-- ---- slots of columns

-- the rows by a mask that is held
pub masked-slots : {S : Type 0} (held : Bool) (rows : List (Row S)) (mask : List Bool)
    → (if held then Some (map (λ (row : Row S). row.1) rows) else None) ≡ Some mask
    → map slot rows ≡ map slot (zip (map (λ (row : Row S). row.0) rows) mask)
masked-slots {S} true rows mask e =
    let same : map (λ (row : Row S). row.1) rows ≡ mask = cc in
    ap (map slot) (sym (rows_marked rows) ∙ ap (zip (map (λ (row : Row S). row.0) rows)) same)
masked-slots false rows mask e = cc

-- a mark in a mask that is held
pub mask-mark : {S : Type 0} (held : Bool) (rows : List (Row S)) (mask : List Bool) (i : ℕ)
    → (if held then Some (map (λ (row : Row S). row.1) rows) else None) ≡ Some mask
    → slice_get mask i ≡ slice_get (map (λ (row : Row S). row.1) rows) i
mask-mark {S} true rows mask i e =
    let same : mask ≡ map (λ (row : Row S). row.1) rows = cc in
    ap (λ marks. slice_get marks i) same
mask-mark false rows mask i e = cc

valid-slot : {S : Type 0} (rows : List (Row S)) (i : ℕ) (v : S) → IsTrue (list_all (λ row. row.1) rows)
    → slice_get (map (λ row. row.0) rows) i ≡ Some v → slice_get (map slot rows) i ≡ Some (Some v)
valid-slot rows i v all e = ap (λ slots. slice_get slots i) (slots_valid rows all)
    ∙ some-at (map (λ row. row.0) rows) i v e
  where
    some-at : {S : Type 0} (values : List S) (i : ℕ) (v : S) → slice_get values i ≡ Some v
        → slice_get (map Some values) i ≡ Some (Some v)
    some-at [] i v e = cc
    some-at (x ∷ values) zero v e = ap Some e
    some-at (x ∷ values) (suc i) v e = some-at values i v e

-- a slot that the mask says is valid
pub shown-slot : {S : Type 0} (held : Bool) (rows : List (Row S)) (i : ℕ) (v : S)
    → (held ≡ false → list_all (λ (row : Row S). row.1) rows ≡ true)
    → IsValidAt (if held then Some (map (λ (row : Row S). row.1) rows) else None) i
    → slice_get (map (λ (row : Row S). row.0) rows) i ≡ Some v → slice_get (map slot rows) i ≡ Some (Some v)
shown-slot true rows i v is_column valid stored = slot-at rows i v true stored valid
shown-slot false rows i v is_column valid stored = valid-slot rows i v (is_column refl) stored

-- a slot that it says is not
pub null-slot : {S : Type 0} (held : Bool) (rows : List (Row S)) (i : ℕ) → i < length rows
    → ¬ IsValidAt (if held then Some (map (λ (row : Row S). row.1) rows) else None) i
    → slice_get (map slot rows) i ≡ Some None
null-slot {S} true rows i low clear =
    let marks = map (λ (row : Row S). row.1) rows in
    let inside : i < length marks = omega (arith, low, length-map rows (λ (row : Row S). row.1)) in
    by_mark (get_or marks i false) (slice_get-get_or marks i false inside)
  where
    by_mark : (m : Bool) → slice_get (map (λ (row : Row S). row.1) rows) i ≡ Some m
        → slice_get (map slot rows) i ≡ Some None
    by_mark true at = absurd (clear at)
    by_mark false at = null-at rows i low at
null-slot false rows i low clear = absurd (clear tt)

pub pushed-slot : {A S : Type 0} (default : S) (column : ColumnWith A S) (shown : Option S)
    → last_slot (append_slot default column shown) ≡ shown
pushed-slot default column None = ap (option_and_then slot) (last-push column.rows (default, false))
pushed-slot default column (Some v) = ap (option_and_then slot) (last-push column.rows (v, true))

pub pushed-rows : {A S : Type 0} (default : S) (column : ColumnWith A S) (shown : Option S)
    → (without_last (append_slot default column shown)).rows ≡ column.rows
pushed-rows default column None = rest-push column.rows (default, false)
pushed-rows default column (Some v) = rest-push column.rows (v, true)

-- ---- slots that are appended at once

pub appended-items : {A S X : Type 0} (shown : X → S) (default : S) (column : ColumnWith A S) (items : List X)
    → append_slots default column (map (λ item. Some (shown item)) items) ≡ append_values column (map shown items)
appended-items shown default column [] = ap (λ rows. record column { rows = rows }) (sym (append-nil column.rows))
appended-items shown default column (x ∷ items) =
    appended-items shown default (append_slot default column (Some (shown x))) items
    ∙ ap (λ rows. record column { rows = rows }) (append_assoc column.rows ((shown x, true) ∷ [])
    (rows_of (map shown items) None))

pub appended-values : {A S : Type 0} (default : S) (column : ColumnWith A S) (values : List S)
    → append_slots default column (map Some values) ≡ append_values column values
appended-values default column values = appended-items (λ x. x) default column values
    ∙ ap (append_values column) (map-id values)

pub appended-masked : {A S : Type 0} (default : S) (column : ColumnWith A S) (n : ℕ)
    → append_slots default (record column { held = true }) (replicate n None)
    ≡ append_nulls column (replicate n default)
appended-masked default column zero = ap (λ rows. record column { rows = rows; held = true })
    (sym (append-nil column.rows))
appended-masked default column (suc n) =
    appended-masked default (record column { rows = column.rows ++ (default, false) ∷ [] }) n
    ∙ ap (λ rows. record column { rows = rows; held = true }) (append_assoc column.rows ((default, false) ∷ [])
    (map (λ value. (value, false)) (replicate n default)))

pub appended-nulls : {A S : Type 0} (default : S) (column : ColumnWith A S) (n : ℕ) → 0 < n
    → append_slots default column (replicate n None) ≡ append_nulls column (replicate n default)
appended-nulls default column zero some = let none : ⊥ = omega (arith, some) in absurd none
appended-nulls default column (suc n) some = appended-masked default column (suc n)

pub needless-bare : {A S : Type 0} (column : ColumnWith A S) → IsColumn column → column.held ≡ false
    → without_needless_mask column ≡ column
needless-bare column is_column bare = ap (λ held. record column { held = held }) (ap not (is_column bare) ∙ sym bare)
