use Rattle.std.proofs.Common.{◌-◌, drop, length}
use Rattle.compute_sort.specs.Columns.{rows_order}
use Rattle.compute_sort.specs.Sort.{SortsIndexes}
use Rattle.compute_sort.proofs.lexsort.sorted_rows.Given as goal

abbrev pub invariant-loop-k : goal.invariant-loop-k
invariant-loop-k l = SortsIndexes (rows_order (drop (length l.columns - l.k) l.columns)) l.count l.indexes.items
