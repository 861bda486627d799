use Rattle.std.proofs.Common.{◌≡◌, true, take, flat_map}
use Rattle.std.specs.List.{list_all}
use Rattle.arrow_column.specs.Column.{marks_of}
use Rattle.arrow_kernels.proofs.marks.has_nulls.Given as goal

abbrev pub invariant-loop-array : goal.invariant-loop-array
invariant-loop-array g l =
    list_all (λ mark. mark) (flat_map (λ array. marks_of (g.A.Array.column array)) (take l.array-index l.arrays)) ≡ true
