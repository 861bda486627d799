use Rattle.std.proofs.Common.{◌≡◌, ◌+◌, ◌++◌, length, take}
use Rattle.std.specs.Vec.{vec_capacity}
use Rattle.arrow_memory.specs.Marks.{bits_of}
use Rattle.compute_select.specs.Selects.{chosen_values}
use Rattle.compute_select.proofs.if_then_else.choose_word.Given as goal

abbrev pub invariant-loop-i : goal.invariant-loop-i
invariant-loop-i g l = record {
  values : l.values.items
      ≡ l.initial.values.items ++ take l.i (chosen_values (bits_of l.predicate (length l.lhs)) l.lhs l.rhs);
  len : length l.values.items ≡ length l.initial.values.items + l.i;
  room : vec_capacity l.values ≡ vec_capacity l.initial.values;
}
