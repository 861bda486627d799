use Rattle.std.proofs.Common.{◌≡◌, ◌≤◌, length, take}
use Rattle.std.specs.Vec.{vec_capacity}
use Rattle.compute_arithmetics.specs.Arithmetic.{of_pairs}
use Rattle.compute_arithmetics.proofs.combine.combine_values.Given as goal

abbrev pub invariant-loop-i : goal.invariant-loop-i
invariant-loop-i g l = record {
  so_far : l.values.items ≡ take l.i (of_pairs g.O.Operation.make l.lhs l.rhs);
  room : length l.lhs ≤ vec_capacity l.values;
}
