use Rattle.std.proofs.Common.{take}
use Rattle.compute_sort.specs.Columns.{columns_order}
use Rattle.compute_sort.specs.Partition.{AreChanges}
use Rattle.compute_sort.proofs.columns.changed_rows.Given as goal

abbrev pub invariant-loop-column : goal.invariant-loop-column
invariant-loop-column l = AreChanges (columns_order (take l.column-index l.columns)) l.count l.differs.items
