use Rattle.std.proofs.Common.{false, get_or, pos}
use Rattle.std.proofs.lemmas.Option.{slice_get-get_or}
use Rattle.compute_aggregate.proofs.GroupSumLemmas.{Whole, no_whole_slots, whole_slots_more}
use Rattle.compute_aggregate.proofs.aggregate.whole_sums.whole_slots.Goals as goal

pub loop-i-init : goal.loop-i-init
loop-i-init g c = no_whole_slots g.T.NativeArithmetics.number c.args.sums.now c.in_ok-slots.slots.items c.in_ok-slots.ensures.items

pub loop-i-preserved : goal.loop-i-preserved
loop-i-preserved g c =
    let zero : Whole = (pos 0, false) in
    whole_slots_more g.T.NativeArithmetics.number c.args.sums.now c.loop-i.i c.loop-i.slots.items c.push.new.self.items
    c.in_ok-whole_slot.field-0 (get_or c.args.sums.now c.loop-i.i zero) c.loop-i.invariant
    (slice_get-get_or c.args.sums.now c.loop-i.i zero c.loop-i-test.true) c.in_ok-whole_slot.ensures.ok c.in_ok-push.ensures.items
