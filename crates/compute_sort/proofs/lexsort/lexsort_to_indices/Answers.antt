use Rattle.std.proofs.Common.{◌≡◌, None}
use Rattle.std.proofs.lemmas.Result.{IfOk-weaker}
use Rattle.arrow_types.specs.Types.{plain, uint64}
use Rattle.arrow_column.specs.Column.{column_of_parts}
use Rattle.compute_sort.specs.Columns.{rows_count, rows_order}
use Rattle.compute_sort.specs.Sort.{HoldsSorted}
use Rattle.compute_sort.proofs.OrderLemmas.{holds-sorted}
use Rattle.compute_sort.proofs.lexsort.lexsort_to_indices.Goals as goal

pub returns-clause-ok : goal.returns-clause-ok
returns-clause-ok c =
    let order = rows_order c.args.columns.now in
    let n = rows_count c.args.columns.now in
    let indexes = c.in_ok-limited_rows.field-0.items in
    IfOk-weaker c.from_vec.result (λ made. made ≡ column_of_parts (plain uint64) indexes None)
    (HoldsSorted order n c.args.limit)
    (λ made is. holds-sorted order n c.args.limit made indexes is c.in_ok-limited_rows.ensures)
    c.from_vec.ensures.ok
