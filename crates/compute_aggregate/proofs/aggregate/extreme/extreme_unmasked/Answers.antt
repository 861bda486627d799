use Rattle.std.proofs.Common.{arith, option_map}
use Rattle.compute_aggregate.proofs.ExtremeLemmas.{all_extreme, valid_more}
use Rattle.compute_aggregate.proofs.aggregate.extreme.extreme_unmasked.Goals as goal

pub loop-i-preserved : goal.loop-i-preserved
loop-i-preserved g c =
    let seen = g.A.BorrowSlots.seen in
    valid_more c.args.extreme g.A.OrderSlots.order (g.A.Array.column c.args.array.now) c.loop-i.i
    (option_map seen c.loop-i.best) (option_map seen c.more_extreme-best.result) (seen c.value.result) c.value.ensures
    (c.requires.valid c.loop-i.i c.loop-i-test.true) c.loop-i.invariant c.more_extreme-best.ensures

pub returns : goal.returns
returns g c =
    all_extreme c.args.extreme g.A.OrderSlots.order (g.A.Array.column c.args.array.now)
    (option_map g.A.BorrowSlots.seen c.loop-i.best) c.loop-i.i (omega arith) c.loop-i.invariant
