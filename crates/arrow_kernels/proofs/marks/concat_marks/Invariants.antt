use Rattle.std.proofs.Common.{◌≡◌, take, flat_map}
use Rattle.arrow_column.specs.Column.{marks_of}
use Rattle.arrow_kernels.proofs.marks.concat_marks.Given as goal

abbrev pub invariant-loop-array : goal.invariant-loop-array
invariant-loop-array g l =
    l.joined ≡ flat_map (λ array. marks_of (g.A.Array.column array)) (take l.array-index l.arrays)
