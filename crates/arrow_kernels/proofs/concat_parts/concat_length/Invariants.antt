use Rattle.std.proofs.Common.{◌≡◌, ◌≤◌, length, take, flat_map}
use Rattle.std.specs.List.{concat}
use Rattle.arrow_column.specs.Column.{stored_values}
use Rattle.arrow_kernels.proofs.concat_parts.concat_length.Given as goal

abbrev pub invariant-loop-array : goal.invariant-loop-array
invariant-loop-array g l = (l.total ≡ length (concat (flat_map stored_values (take l.array-index l.arrays))))
    × (l.total ≤ l.most)
