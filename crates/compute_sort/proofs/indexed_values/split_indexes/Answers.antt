use Rattle.std.proofs.Common.{get_or, subst, sym, take}
use Rattle.std.proofs.lemmas.List.{take_more}
use Rattle.arrow_column.specs.Column.{slots_of}
use Rattle.compute_sort.specs.IndexedValues.{SplitsList}
use Rattle.compute_sort.proofs.OrderLemmas.{next-index}
use Rattle.compute_sort.proofs.indexed_values.split_indexes.Goals as goal

pub loop-index-preserved : goal.loop-index-preserved
loop-index-preserved g c =
    let slots = slots_of (g.A.Array.column c.args.array.now) in
    let indexes = c.args.indexes.now in
    let k = c.loop-index.index-index in
    let made = c.push_pair.new.to in
    subst (λ l. SplitsList g.A.BorrowSlots.seen slots l made.values.items made.nulls.items)
    (sym (take_more indexes k 0 c.loop-index-test.true))
    (next-index g.A.BorrowSlots.seen slots (take k indexes) (get_or indexes k 0) c.loop-index.indexed.values.items
    c.loop-index.indexed.nulls.items made.values.items made.nulls.items c.slot_or_null-slot.result
    c.slot_or_null-slot.ensures c.loop-index.invariant c.in_ok-push_pair.ensures)
