use Rattle.std.proofs.Common.{◌≡◌, ◌-◌, ◌^◌, min, length, take, flat_map}
use Rattle.arrow_column.specs.Column.{marks_of}
use Rattle.arrow_kernels.proofs.marks.count_slots.Given as goal

abbrev pub invariant-loop-array : goal.invariant-loop-array
invariant-loop-array g l =
    l.count ≡ min (length (flat_map (λ array. marks_of (g.A.Array.column array)) (take l.array-index l.arrays))) (2 ^ 64 - 1)
