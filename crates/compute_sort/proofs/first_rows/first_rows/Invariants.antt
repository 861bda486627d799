use Rattle.std.specs.List.{range_with_len}
use Rattle.compute_sort.specs.Columns.{then_index}
use Rattle.compute_sort.specs.IndexedValues.{KeepsFirst}
use Rattle.compute_sort.proofs.first_rows.first_rows.Given as goal

abbrev pub invariant-loop-i : goal.invariant-loop-i
invariant-loop-i g l = KeepsFirst (then_index (g.R.RowOrder.order l.rows)) l.limit (range_with_len 0 l.i) l.kept.items
