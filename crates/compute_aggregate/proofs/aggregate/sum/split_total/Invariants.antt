use Rattle.std.proofs.Common.{◌≡◌, ◌≤◌, ◌*◌, ◌^◌, map, take, unsigned_abs}
use Rattle.arrow_column.specs.Column.{slots_of}
use Rattle.compute_aggregate.specs.Aggregates.{sum_all}
use Rattle.compute_aggregate.specs.Sums.{sum_split}
use Rattle.compute_aggregate.proofs.AggregateLemmas.{valid}
use Rattle.compute_aggregate.proofs.aggregate.sum.split_total.Given as goal

abbrev pub invariant-loop-i : goal.invariant-loop-i
invariant-loop-i g l = record {
  sum : sum_split (l.high, l.low) ≡ sum_all (map g.T.NativeArithmetics.number (valid (take l.i (slots_of l.array))));
  high : unsigned_abs l.high ≤ l.i * 2 ^ 63;
  low : l.low ≤ l.i * (2 ^ 64);
}
