use Rattle.std.proofs.Common.{◌-◌, ◌∙◌, ap, arith, drop, IfOk, length, Some, length-drop, subst, sym, take, unwrap_or}
use Rattle.std.proofs.lemmas.List.{take_all}
use Rattle.compute_sort.specs.Columns.{AreSortedRows, rows_by, values_count, values_order, then_index}
use Rattle.compute_sort.specs.Sort.{AreSorted}
use Rattle.compute_sort.proofs.TotalLemmas.{first-and_rest}
use Rattle.compute_sort.proofs.lexsort.selected_rows.Goals as goal

pub returns : goal.returns
returns c =
    let columns = c.args.columns.now in
    let rest = take (length columns - 1) (drop 1 columns) in
    let all = take_all (length columns - 1) (drop 1 columns) (omega (arith, length-drop 1 columns)) in
    let is = first-and_rest columns c.index-columns-0.result rest c.requires c.index-columns-0.is all in
    let values = c.index-columns-0.result.values in
    let options = c.unwrap_or-options.ensures ∙ ap (unwrap_or c.index-columns-0.result.options) c.default.ensures in
    subst (λ cs. IfOk c.selected_by.result (λ indexes. AreSortedRows cs (Some c.args.limit) indexes.items)) (sym is)
    (subst (λ o. IfOk c.selected_by.result (λ indexes. AreSorted (then_index (rows_by (values_order values o) rest))
    (values_count values) (Some c.args.limit) indexes.items)) options c.selected_by.ensures)
