use Rattle.std.proofs.Common.{◌≡◌, arith, length, subst}
use Rattle.std.proofs.lemmas.List.{length-map}
use Rattle.arrow_memory.specs.Rows.{slot}
use Rattle.arrow_column.specs.Column.{slots_of}
use Rattle.compute_sort.specs.IndexedValues.{SplitsSlots}
use Rattle.compute_sort.proofs.OrderLemmas.{next-slot}
use Rattle.compute_sort.proofs.indexed_values.split_slots.Goals as goal

pub loop-i-preserved : goal.loop-i-preserved
loop-i-preserved g c =
    next-slot g.A.BorrowSlots.seen (slots_of (g.A.Array.column c.args.array.now)) c.loop-i.i c.loop-i.indexed.values.items
    c.loop-i.indexed.nulls.items c.push_pair.new.to.values.items c.push_pair.new.to.nulls.items c.get_slot.result
    c.get_slot.ensures c.loop-i.invariant c.in_ok-push_pair.ensures

pub returns : goal.returns
returns g c =
    let column = g.A.Array.column c.args.array.now in
    let all : c.loop-i.i ≡ length (slots_of column) = omega (arith, length-map column.rows slot) in
    subst (λ n. SplitsSlots g.A.BorrowSlots.seen (slots_of column) n c.loop-i.indexed.values.items c.loop-i.indexed.nulls.items)
    all c.loop-i.invariant
