use Rattle.arrow_column.specs.Column.{slots_of}
use Rattle.compute_sort.specs.IndexedValues.{SplitsSlots}
use Rattle.compute_sort.proofs.indexed_values.split_slots.Given as goal

abbrev pub invariant-loop-i : goal.invariant-loop-i
invariant-loop-i g l =
    SplitsSlots g.A.BorrowSlots.seen (slots_of (g.A.Array.column l.array)) l.i l.indexed.values.items l.indexed.nulls.items
