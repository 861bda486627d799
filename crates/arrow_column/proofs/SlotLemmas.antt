-- Lemmas about what the slots of rows show.
use Rattle.std.proofs.Common.{◌≡◌, ℕ, zero, suc, ◌<◌, Bool, true, false, if◌then◌else◌, List, [], ◌∷◌}
use Rattle.std.proofs.Common.{◌++◌, length, map, replicate, slice_get, Option, Some, None}
use Rattle.std.proofs.Common.{refl, sym, ap, ◌∙◌, arith, append_assoc}
use Rattle.std.proofs.lemmas.List.{map-append, append-nil, length-map}
use Rattle.std.proofs.lemmas.Option.{slice_get_within}
use Rattle.std.proofs.lemmas.Slice.Zip.{seconds-zip}
use Rattle.arrow_memory.specs.Rows.{FitsMask, Row, rows_of, slot}
use Rattle.arrow_column.specs.Column.{ColumnWith, append_slot, append_slots, slots_of}
use Rattle.arrow_column.proofs.RowLemmas.{marks-all, null-at, slot-at, stored-rows}

-- ---- what is appended

pub one-slot : {A S : Type 0} (default : S) (column : ColumnWith A S) (shown : Option S)
    → slots_of (append_slot default column shown) ≡ slots_of column ++ shown ∷ []
one-slot default column None = map-append slot column.rows ((default, false) ∷ [])
one-slot default column (Some v) = map-append slot column.rows ((v, true) ∷ [])

pub many-slots : {A S : Type 0} (default : S) (column : ColumnWith A S) (slots : List (Option S))
    → slots_of (append_slots default column slots) ≡ slots_of column ++ slots
many-slots default column [] = sym (append-nil (slots_of column))
many-slots default column (x ∷ slots) =
    many-slots default (append_slot default column x) slots
    ∙ ap (λ front. front ++ slots) (one-slot default column x)
    ∙ append_assoc (slots_of column) (x ∷ []) slots

pub bare-slots : {S : Type 0} (values : List S) → map slot (rows_of values None) ≡ map Some values
bare-slots [] = refl
bare-slots (v ∷ values) = ap (λ rest. Some v ∷ rest) (bare-slots values)

pub null-slots : {S : Type 0} (values : List S)
    → map slot (map (λ value. (value, false)) values) ≡ replicate (length values) None
null-slots [] = refl
null-slots (v ∷ values) = ap (λ rest. None ∷ rest) (null-slots values)

-- ---- what a slot shows

-- a value that a slot shows is stored there
pub shown-stored : {S : Type 0} (rows : List (Row S)) (i : ℕ) (v : S) → slice_get (map slot rows) i ≡ Some (Some v)
    → slice_get (map (λ (row : Row S). row.0) rows) i ≡ Some v
shown-stored [] i v e = cc
shown-stored ((x, true) ∷ rows) zero v e = cc
shown-stored ((x, false) ∷ rows) zero v e = cc
shown-stored (row ∷ rows) (suc i) v e = shown-stored rows i v e

-- ---- rows of parts that fit

pub held-marks : {S : Type 0} (values : List S) (mask : Option (List Bool)) (marks : List Bool) → FitsMask values mask
    → mask ≡ Some marks → map (λ (row : Row S). row.1) (rows_of values mask) ≡ marks
held-marks values None marks fits held = cc
held-marks values (Some ms) marks fits held =
    let same : ms ≡ marks = cc in
    seconds-zip values ms fits ∙ same

pub bare-marks : {S : Type 0} (values : List S) (mask : Option (List Bool)) → mask ≡ None
    → map (λ (row : Row S). row.1) (rows_of values mask) ≡ replicate (length values) true
bare-marks values None bare = marks-all values
bare-marks values (Some ms) bare = cc

pub held-shown : {S : Type 0} (values : List S) (mask : Option (List Bool)) (marks : List Bool) (i : ℕ) (v : S)
    (m : Bool) → FitsMask values mask → mask ≡ Some marks → slice_get values i ≡ Some v → slice_get marks i ≡ Some m
    → slice_get (map slot (rows_of values mask)) i ≡ Some (if m then Some v else None)
held-shown values mask marks i v m fits held stored marked =
    slot-at (rows_of values mask) i v m
    (ap (λ vs. slice_get vs i) (stored-rows values mask fits) ∙ stored)
    (ap (λ ms. slice_get ms i) (held-marks values mask marks fits held) ∙ marked)

pub held-null : {S : Type 0} (values : List S) (mask : Option (List Bool)) (marks : List Bool) (i : ℕ)
    → FitsMask values mask → mask ≡ Some marks → slice_get marks i ≡ Some false
    → slice_get (map slot (rows_of values mask)) i ≡ Some None
held-null {S} values mask marks i fits held marked =
    let here : slice_get (map (λ (row : Row S). row.1) (rows_of values mask)) i ≡ Some false =
    ap (λ ms. slice_get ms i) (held-marks values mask marks fits held) ∙ marked in
    let within : i < length (map (λ (row : Row S). row.1) (rows_of values mask)) =
    slice_get_within (map (λ (row : Row S). row.1) (rows_of values mask)) i false here in
    null-at (rows_of values mask) i
    (omega (arith, within, length-map (rows_of values mask) (λ (row : Row S). row.1))) here

pub bare-shown : {S : Type 0} (values : List S) (mask : Option (List Bool)) → mask ≡ None
    → map slot (rows_of values mask) ≡ map Some values
bare-shown values None bare = bare-slots values
bare-shown values (Some ms) bare = cc
