use Rattle.std.proofs.Common.{◌≡◌, drop}
use Rattle.compute_sort.specs.Columns.{columns_order}
use Rattle.compute_sort.proofs.columns.compare_columns.Given as goal

abbrev pub invariant-loop-column : goal.invariant-loop-column
invariant-loop-column l = columns_order l.columns l.i l.j ≡ columns_order (drop l.column-index l.columns) l.i l.j
