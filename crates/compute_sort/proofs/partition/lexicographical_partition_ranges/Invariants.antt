use Rattle.compute_sort.specs.Columns.{columns_order}
use Rattle.compute_sort.proofs.PartitionLemmas.{RangesBelow}
use Rattle.compute_sort.proofs.partition.lexicographical_partition_ranges.Given as goal

abbrev pub invariant-loop-i : goal.invariant-loop-i
invariant-loop-i l = RangesBelow (columns_order l.columns) l.i l.start l.ranges.items
