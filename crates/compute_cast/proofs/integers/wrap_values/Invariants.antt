use Rattle.std.proofs.Common.{◌≡◌, ◌≤◌, length, map, take}
use Rattle.std.specs.Vec.{vec_capacity}
use Rattle.compute_cast.proofs.integers.wrap_values.Given as goal

abbrev pub invariant-loop-i : goal.invariant-loop-i
invariant-loop-i g l = record {
  so_far : l.made.items
      ≡ take l.i (map (λ x. g.O.NativeArithmetics.wrap (g.I.NativeArithmetics.number x)) l.values);
  room : length l.values ≤ vec_capacity l.made;
}
