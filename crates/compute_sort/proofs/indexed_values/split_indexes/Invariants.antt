use Rattle.std.proofs.Common.{take}
use Rattle.arrow_column.specs.Column.{slots_of}
use Rattle.compute_sort.specs.IndexedValues.{SplitsList}
use Rattle.compute_sort.proofs.indexed_values.split_indexes.Given as goal

abbrev pub invariant-loop-index : goal.invariant-loop-index
invariant-loop-index g l =
    SplitsList g.A.BorrowSlots.seen (slots_of (g.A.Array.column l.array)) (take l.index-index l.indexes)
    l.indexed.values.items l.indexed.nulls.items
