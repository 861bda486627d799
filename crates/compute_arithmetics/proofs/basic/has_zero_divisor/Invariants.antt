use Rattle.std.proofs.Common.{◌≡◌, false, take}
use Rattle.std.specs.List.{list_any, zip}
use Rattle.arrow_column.specs.Column.{slots_of}
use Rattle.compute_arithmetics.specs.Arithmetic.{divides_by_zero}
use Rattle.compute_arithmetics.proofs.basic.has_zero_divisor.Given as goal

abbrev pub invariant-loop-i : goal.invariant-loop-i
invariant-loop-i g l =
    list_any (λ pair. divides_by_zero g.T.NativeArithmetics.number pair.0 pair.1)
    (take l.i (zip (slots_of l.lhs) (slots_of l.rhs))) ≡ false
