use Rattle.std.proofs.Common.{◌≡◌, ◌≤◌, length, map, take}
use Rattle.std.specs.Vec.{vec_capacity}
use Rattle.compute_arithmetics.proofs.combine.map_values.Given as goal

abbrev pub invariant-loop-i : goal.invariant-loop-i
invariant-loop-i g l = record {
  so_far : l.values.items ≡ take l.i (map (λ x. g.O.Operation.make x l.rhs) l.lhs);
  room : length l.lhs ≤ vec_capacity l.values;
}
