use Rattle.std.specs.Ordering.{on}
use Rattle.arrow_column.specs.Column.{slots_of}
use Rattle.compute_sort.specs.IndexedValues.{KeepsSlots, pair_order_by}
use Rattle.compute_sort.proofs.select.keep_slots.Given as goal

abbrev pub invariant-loop-i : goal.invariant-loop-i
invariant-loop-i g l =
    KeepsSlots g.A.BorrowSlots.seen (pair_order_by l.descending (on g.A.BorrowSlots.seen g.A.OrderSlots.order)) l.limit
    (slots_of (g.A.Array.column l.array)) l.i l.indexed.values.items l.indexed.nulls.items
