use Rattle.std.proofs.Common.{◌≡◌, ◌-◌, ◌∙◌, ap, arith, drop, length, subst, sym, unwrap_or}
use Rattle.compute_sort.specs.Columns.{rows_order, values_order}
use Rattle.compute_sort.specs.IndexedValues.{SortsStably}
use Rattle.compute_sort.specs.Sort.{SortsIndexes}
use Rattle.compute_sort.proofs.RowLemmas.{more-columns, no-columns}
use Rattle.compute_sort.proofs.lexsort.sorted_rows.Goals as goal

pub loop-k-init : goal.loop-k-init
loop-k-init c =
    subst (SortsIndexes (rows_order (drop (length c.args.columns.now - 0) c.args.columns.now)) c.args.count)
    (sym c.in_ok-indexes.ensures) (no-columns c.args.columns.now c.args.count)

pub loop-k-preserved : goal.loop-k-preserved
loop-k-preserved c =
    let column = c.index-columns-columns.result in
    let options = c.unwrap_or-options.ensures ∙ ap (unwrap_or column.options) c.default.ensures in
    more-columns c.args.columns.now c.loop-k.k c.args.count column c.loop-k.indexes.items
    c.in_ok-indexes-2.indexes.items (omega arith) c.index-columns-columns.is c.loop-k.invariant
    (subst (λ o. SortsStably (values_order column.values o) c.loop-k.indexes.items c.in_ok-indexes-2.indexes.items)
    options (subst (λ xs. SortsStably (values_order column.values c.unwrap_or-options.result) xs
    c.in_ok-indexes-2.indexes.items) c.as_slice.ensures.value c.in_ok-indexes-2.ensures))

pub returns : goal.returns
returns c =
    let columns = c.args.columns.now in
    let all : length columns - c.loop-k.k ≡ 0 = omega arith in
    subst (λ n. SortsIndexes (rows_order (drop n columns)) c.args.count c.loop-k.indexes.items) all c.loop-k.invariant
