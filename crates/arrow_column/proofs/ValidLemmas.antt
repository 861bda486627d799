-- Lemmas about how many slots and marks columns have, and about rows that are all valid.
use Rattle.std.proofs.Common.{◌≡◌, ℕ, zero, suc, ◌<◌, Bool, true, false, not, cond, count_by, IsTrue, List, [], ◌∷◌}
use Rattle.std.proofs.Common.{length, map, slice_get, Some, None, refl, sym, ap, ◌∙◌, arith, true≢false}
use Rattle.std.specs.List.{list_all}
use Rattle.std.proofs.lemmas.List.{length-map}
use Rattle.std.proofs.lemmas.List.Sums.{sum_by-cons}
use Rattle.std.proofs.lemmas.Option.{cond_some}
use Rattle.arrow_memory.specs.Rows.{Row, slot}
use Rattle.arrow_column.specs.Column.{ColumnWith, IsColumn, marks_of, mask_of, slots_of, stored_values}
use Rattle.arrow_column.proofs.ColumnLemmas.{valid_by_held}

-- ---- how many slots and marks

pub length-slots : {A S : Type 0} (column : ColumnWith A S) → length (slots_of column) ≡ length column.rows
length-slots column = length-map column.rows slot

-- a mask has a mark for each stored value
pub length-mask : {A S : Type 0} (column : ColumnWith A S) (mask : List Bool) → mask_of column ≡ Some mask
    → length mask ≡ length (stored_values column)
length-mask column mask held =
    ap length (sym (cond_some column.held (marks_of column) mask held).1)
    ∙ length-map column.rows (λ (row : Row _). row.1) ∙ sym (length-map column.rows (λ (row : Row _). row.0))

-- ---- rows that are all valid

-- rows of which no mark is clear
pub all-valid : {S : Type 0} (rows : List (Row S)) → count_by not (map (λ row. row.1) rows) ≡ 0
    → IsTrue (list_all (λ row. row.1) rows)
all-valid [] none = refl
all-valid ((x, true) ∷ rows) none = all-valid rows (omega (
  arith,
  none,
  sum_by-cons (λ m. cond (not m) 1 0) true (map (λ (row : Row _). row.1) rows),
))
all-valid ((x, false) ∷ rows) none = absurd (omega (
  arith,
  none,
  sum_by-cons (λ m. cond (not m) 1 0) false (map (λ (row : Row _). row.1) rows),
))

-- their marks, and those of a column without a mask
pub set-at : {S : Type 0} (rows : List (Row S)) → IsTrue (list_all (λ row. row.1) rows) → (k : ℕ) → k < length rows
    → slice_get (map (λ (row : Row S). row.1) rows) k ≡ Some true
set-at [] all k low = absurd (omega (arith, low))
set-at ((x, true) ∷ rows) all zero low = refl
set-at ((x, true) ∷ rows) all (suc k) low = set-at rows all k (omega (arith, low))
set-at ((x, false) ∷ rows) all k low = absurd (true≢false (sym all))

pub set-without_mask : {A S : Type 0} (column : ColumnWith A S) → IsColumn column → mask_of column ≡ None → (k : ℕ)
    → k < length column.rows → slice_get (marks_of column) k ≡ Some true
set-without_mask column is_column none = set-at column.rows (valid_by_held column.held column.rows is_column none)
