use Rattle.std.proofs.Common.{◌≡◌, take}
use Rattle.compute_sort.specs.Columns.{columns_at}
use Rattle.compute_sort.proofs.lexsort.take_columns.Given as goal

abbrev pub invariant-loop-column : goal.invariant-loop-column
invariant-loop-column l = l.made.items ≡ columns_at (take l.column-index l.columns) l.indexes
