use Rattle.std.proofs.Common.{◌≡◌, ◌*◌, ◌≤◌, length, take}
use Rattle.std.specs.Vec.{vec_capacity}
use Rattle.compute_select.specs.Selects.{chosen_values}
use Rattle.compute_select.proofs.if_then_else.choose_values.Given as goal

abbrev pub invariant-loop-i : goal.invariant-loop-i
invariant-loop-i g l = record {
  values : l.values.items ≡ take (64 * l.i) (chosen_values l.predicate l.lhs l.rhs);
  len : length l.values.items ≡ 64 * l.i;
  room : length l.lhs ≤ vec_capacity l.values;
}
