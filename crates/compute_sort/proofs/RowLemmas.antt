-- Rows that are sorted by one column more.
use Rattle.std.proofs.Common.{◌≡◌, ◌∙◌, ℕ, ◌+◌, ◌-◌, ◌<◌, List, ◌∷◌, ap, arith, drop, get_or, length, refl}
use Rattle.std.proofs.Common.{subst, sym, unwrap_or}
use Rattle.std.specs.Cmp.{nat_cmp_total, then_total}
use Rattle.std.specs.List.{range_with_len}
use Rattle.std.specs.Ordering.{is_lt, nat_cmp, ordering_then}
use Rattle.std.specs.declared.cmp.Ordering.{Ordering}
use Rattle.std.specs.declared.cmp.Ordering.TheVariants.{Equal, Greater, Less}
use Rattle.std.proofs.lemmas.List.{drop_all, drop_more}
use Rattle.std.proofs.lemmas.List.Sorted.{IsPermutation-refl, IsPermutation-trans}
use Rattle.compute_sort.specs.Columns.{columns_order, rows_order, values_order}
use Rattle.compute_sort.specs.IndexedValues.{SortsStably}
use Rattle.compute_sort.specs.Sort.{SortsIndexes, default_options}
use Rattle.compute_sort.specs.declared.columns.SortColumn.{SortColumn}
use Rattle.compute_sort.proofs.OrderLemmas.{rising-range}
use Rattle.compute_sort.proofs.TotalLemmas.{columns-total}

pub no-columns : (columns : List SortColumn) (n : ℕ)
    → SortsIndexes (rows_order (drop (length columns - 0) columns)) n (range_with_len 0 n)
no-columns columns n =
    subst (λ cs. SortsIndexes (rows_order cs) n (range_with_len 0 n))
    (sym (drop_all (length columns - 0) columns (omega arith)))
    (record { permutation = IsPermutation-refl (range_with_len 0 n); sorted = rising-range n })

then-then : (a b c : Ordering) → ordering_then a (ordering_then b c) ≡ ordering_then (ordering_then a b) c
then-then Less b c = refl
then-then Equal b c = refl
then-then Greater b c = refl

one-column : (column : SortColumn) (rest : List SortColumn) (n : ℕ) (old new : List ℕ)
    → SortsIndexes (rows_order rest) n old
    → SortsStably (values_order column.values (unwrap_or column.options default_options)) old new
    → SortsIndexes (rows_order (column ∷ rest)) n new
one-column column rest n old new so_far sorts = record {
  permutation = IsPermutation-trans (range_with_len 0 n) old new so_far.permutation sorts.permutation;
  sorted = λ k d low high.
      let x : ℕ = get_or new (k + 1) d in
      let y : ℕ = get_or new k d in
      sym (ap is_lt (then-then (values_order column.values (unwrap_or column.options default_options) x y)
      (columns_order rest x y) (nat_cmp x y)))
      ∙ sorts.sorted (rows_order rest) (then_total (columns-total rest) nat_cmp_total) so_far.sorted k d low high;
}

-- the rows are sorted by the last columns, and now by the one before them
pub more-columns : (columns : List SortColumn) (k n : ℕ) (column : SortColumn) (old new : List ℕ) → k < length columns
    → column ≡ get_or columns (length columns - 1 - k) column
    → SortsIndexes (rows_order (drop (length columns - k) columns)) n old
    → SortsStably (values_order column.values (unwrap_or column.options default_options)) old new
    → SortsIndexes (rows_order (drop (length columns - (k + 1)) columns)) n new
more-columns columns k n column old new within is so_far sorts =
    let i : ℕ = length columns - 1 - k in
    let here : length columns - (k + 1) ≡ i = omega (arith, within) in
    let next : length columns - k ≡ i + 1 = omega (arith, within) in
    let whole : drop i columns ≡ column ∷ drop (i + 1) columns =
    drop_more columns i column (omega (arith, within)) ∙ ap (λ c. c ∷ drop (i + 1) columns) (sym is) in
    subst (λ cs. SortsIndexes (rows_order cs) n new) (sym (ap (λ j. drop j columns) here ∙ whole))
    (one-column column (drop (i + 1) columns) n old new
    (subst (λ j. SortsIndexes (rows_order (drop j columns)) n old) next so_far) sorts)
