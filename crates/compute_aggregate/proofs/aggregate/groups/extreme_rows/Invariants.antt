use Rattle.std.proofs.Common.{◌+◌, ◌*◌, None, length, take}
use Rattle.std.specs.List.{zip}
use Rattle.arrow_column.specs.Column.{slots_of}
use Rattle.compute_aggregate.specs.Groups.{StatesOf, as_seen, extreme_step}
use Rattle.compute_aggregate.proofs.aggregate.groups.extreme_rows.Given as goal

abbrev pub invariant-loop-i : goal.invariant-loop-i
invariant-loop-i g l = StatesOf (extreme_step l.extreme g.A.OrderSlots.order) None
    (take (64 * l.i) (zip l.indices (slots_of (g.A.Array.column l.array)))) (length l.fn.best)
    (as_seen g.A.BorrowSlots.seen l.best)

abbrev pub invariant-loop-k : goal.invariant-loop-k
invariant-loop-k g l = StatesOf (extreme_step l.extreme g.A.OrderSlots.order) None
    (take (l.place + l.k) (zip l.indices (slots_of (g.A.Array.column l.array)))) (length l.fn.best)
    (as_seen g.A.BorrowSlots.seen l.best)
