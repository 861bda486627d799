-- The columns by which rows are sorted, one more at a time.
use Rattle.std.proofs.Common.{◌≡◌, ◌∙◌, ℕ, ◌+◌, ◌<◌, List, [], ◌∷◌, ◌++◌, ap, ap₂, get_or, length, subst, sym, take}
use Rattle.std.proofs.lemmas.List.{map_push, take_more}
use Rattle.std.proofs.lemmas.List.Elements.{All-get_or}
use Rattle.compute_sort.specs.Columns.{AreColumns, columns_at, rows_count, slots_at, values_count}
use Rattle.compute_sort.specs.Sort.{PickOnce}
use Rattle.compute_sort.specs.declared.columns.SortColumn.{SortColumn}
use Rattle.compute_sort.specs.declared.columns.SortedValues.{SortedValues}

-- indexes that pick from the rows pick from each column
pub picks-column : (columns : List SortColumn) (i : ℕ) (column : SortColumn) (keys : List ℕ) → AreColumns columns
    → i < length columns → column ≡ get_or columns i column → PickOnce (rows_count columns) keys
    → PickOnce (values_count column.values) keys
picks-column columns i column keys are within is picks =
    let here : values_count (get_or columns i column).values ≡ rows_count columns =
    All-get_or (λ (c : SortColumn). values_count c.values ≡ rows_count columns) columns i column within are.1 in
    subst (λ n. PickOnce n keys) (sym (ap (λ (c : SortColumn). values_count c.values) is ∙ here)) picks

-- the slots of one column more are taken
pub taken-more : (columns : List SortColumn) (keys : List ℕ) (made after : List SortedValues) (i : ℕ)
    (column : SortColumn) (taken : SortedValues) → i < length columns → column ≡ get_or columns i column
    → made ≡ columns_at (take i columns) keys → after ≡ made ++ taken ∷ [] → taken ≡ slots_at column.values keys
    → after ≡ columns_at (take (i + 1) columns) keys
taken-more columns keys made after i column taken within is before push same =
    push ∙ ap₂ (λ xs x. xs ++ x ∷ []) before same
    ∙ sym (ap (λ cs. columns_at cs keys) (take_more columns i column within
    ∙ ap (λ c. take i columns ++ c ∷ []) (sym is))
    ∙ map_push (λ (c : SortColumn). slots_at c.values keys) (take i columns) column)
