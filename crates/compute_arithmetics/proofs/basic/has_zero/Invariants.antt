use Rattle.std.proofs.Common.{◌≡◌, false, take}
use Rattle.std.specs.List.{list_any}
use Rattle.arrow_column.specs.Column.{slots_of}
use Rattle.compute_arithmetics.specs.Arithmetic.{slot_is_zero}
use Rattle.compute_arithmetics.proofs.basic.has_zero.Given as goal

abbrev pub invariant-loop-i : goal.invariant-loop-i
invariant-loop-i g l = list_any (slot_is_zero g.T.NativeArithmetics.number) (take l.i (slots_of l.array)) ≡ false
