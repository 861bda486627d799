use Rattle.std.proofs.Common.{◌≡◌, ◌+◌, ◌-◌, ◌≤◌, ◌<◌, option_map}
use Rattle.std.specs.Int.{bit_at}
use Rattle.compute_aggregate.specs.Aggregates.{extreme_before}
use Rattle.compute_aggregate.proofs.aggregate.extreme.extreme_of_word.Given as goal

abbrev pub invariant-loop-k : goal.invariant-loop-k
invariant-loop-k g l = record {
  high : l.k ≤ 64;
  set : l.k < 64 → bit_at l.word l.k ≡ 1;
  so_far : option_map g.A.BorrowSlots.seen l.best
      ≡ extreme_before l.extreme g.A.OrderSlots.order (g.A.Array.column l.array) (l.place + l.k);
}

abbrev pub decreases-loop-k : goal.decreases-loop-k
decreases-loop-k g l = 64 - l.k
