use Rattle.std.proofs.Common.{subst}
use Rattle.std.specs.Ordering.{on}
use Rattle.compute_sort.specs.IndexedValues.{IsPastFirst, pair_order_by}
use Rattle.compute_sort.proofs.OrderLemmas.{seen-weak}
use Rattle.compute_sort.proofs.SelectLemmas.{offers-kept, offers-past}
use Rattle.compute_sort.proofs.select.offer_slot.Goals as goal

pub returns-then-is_past_first : goal.returns-then-is_past_first
returns-then-is_past_first g c =
    let order = pair_order_by c.args.descending (on g.A.BorrowSlots.seen g.A.OrderSlots.order) in
    let past = c.is_past_first.ensures c.if-is_past_first.true in
    offers-past order
    (seen-weak g.A.BorrowSlots.seen g.A.OrderSlots.order c.requires.total c.args.descending) c.args.limit c.args.slot.0
    c.in-Some.value c.args.slot.1 c.args.to.now c.in-Some.is
    (subst (λ kept. IsPastFirst order c.args.limit kept (c.in-Some.value, c.args.slot.1)) c.as_slice.ensures.value past)

pub returns-in_ok-append_pair-in-Some : goal.returns-in_ok-append_pair-in-Some
returns-in_ok-append_pair-in-Some g c =
    offers-kept (pair_order_by c.args.descending (on g.A.BorrowSlots.seen g.A.OrderSlots.order)) c.args.limit
    c.args.slot.0 c.in-Some.value c.args.slot.1 c.args.to.now.nulls.items c.args.to.now.values.items
    c.append_pair.new.kept.items c.in-Some.is c.in_ok-append_pair-in-Some.ensures
