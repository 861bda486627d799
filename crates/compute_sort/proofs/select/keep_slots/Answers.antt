use Rattle.std.proofs.Common.{◌≡◌, arith, length, subst}
use Rattle.std.proofs.lemmas.List.{length-map}
use Rattle.arrow_memory.specs.Rows.{slot}
use Rattle.std.specs.Ordering.{on}
use Rattle.arrow_column.specs.Column.{slots_of}
use Rattle.compute_sort.specs.IndexedValues.{KeepsSlots, pair_order_by}
use Rattle.compute_sort.proofs.OrderLemmas.{seen-weak}
use Rattle.compute_sort.proofs.SelectLemmas.{keeps-next, keeps-no-slot}
use Rattle.compute_sort.proofs.select.keep_slots.Goals as goal

pub loop-i-init : goal.loop-i-init
loop-i-init g c =
    let order = pair_order_by c.args.descending (on g.A.BorrowSlots.seen g.A.OrderSlots.order) in
    keeps-no-slot g.A.BorrowSlots.seen order
    (seen-weak g.A.BorrowSlots.seen g.A.OrderSlots.order c.requires.total c.args.descending)
    c.args.limit (slots_of (g.A.Array.column c.args.array.now)) c.requires.some c.in_ok-with_capacity.field-0.items
    c.in_ok-with_capacity-2.field-0.items c.in_ok-with_capacity.ensures.items
    c.in_ok-with_capacity-2.ensures.items

pub loop-i-preserved : goal.loop-i-preserved
loop-i-preserved g c =
    let order = pair_order_by c.args.descending (on g.A.BorrowSlots.seen g.A.OrderSlots.order) in
    keeps-next g.A.BorrowSlots.seen order
    (seen-weak g.A.BorrowSlots.seen g.A.OrderSlots.order c.requires.total c.args.descending)
    c.args.limit (slots_of (g.A.Array.column c.args.array.now)) c.loop-i.i c.loop-i.indexed c.offer_slot.new.to c.get_slot.result
    c.get_slot.ensures c.loop-i.invariant c.in_ok-offer_slot.ensures

pub returns : goal.returns
returns g c =
    let order = pair_order_by c.args.descending (on g.A.BorrowSlots.seen g.A.OrderSlots.order) in
    let column = g.A.Array.column c.args.array.now in
    let all : c.loop-i.i ≡ length (slots_of column) = omega (arith, length-map column.rows slot) in
    subst (λ n. KeepsSlots g.A.BorrowSlots.seen order c.args.limit (slots_of column) n c.loop-i.indexed.values.items
    c.loop-i.indexed.nulls.items) all c.loop-i.invariant
