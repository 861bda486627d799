use Rattle.std.proofs.Common.{◌≡◌, option_map}
use Rattle.compute_aggregate.specs.Aggregates.{extreme_before}
use Rattle.compute_aggregate.proofs.aggregate.extreme.extreme_unmasked.Given as goal

abbrev pub invariant-loop-i : goal.invariant-loop-i
invariant-loop-i g l = option_map g.A.BorrowSlots.seen l.best
    ≡ extreme_before l.extreme g.A.OrderSlots.order (g.A.Array.column l.array) l.i
