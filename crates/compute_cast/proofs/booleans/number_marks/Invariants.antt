use Rattle.std.proofs.Common.{◌≡◌, ◌+◌, ◌*◌, ◌≤◌, length, map, take}
use Rattle.std.specs.Vec.{vec_capacity}
use Rattle.compute_cast.specs.Cast.{value_of_bool}
use Rattle.compute_cast.proofs.booleans.number_marks.Given as goal

abbrev pub invariant-loop-w : goal.invariant-loop-w
invariant-loop-w g l = record {
  so_far : l.made.items ≡ take (64 * l.w) (map (value_of_bool g.O.NativeArithmetics.wrap) l.marks);
  room : length l.marks ≤ vec_capacity l.made;
}

abbrev pub invariant-loop-k : goal.invariant-loop-k
invariant-loop-k g l = record {
  so_far : l.made.items ≡ take (64 * l.w + l.k) (map (value_of_bool g.O.NativeArithmetics.wrap) l.marks);
  room : length l.marks ≤ vec_capacity l.made;
}

abbrev pub invariant-loop-i : goal.invariant-loop-i
invariant-loop-i g l = record {
  so_far : l.made.items ≡ take l.i (map (value_of_bool g.O.NativeArithmetics.wrap) l.marks);
  room : length l.marks ≤ vec_capacity l.made;
}
