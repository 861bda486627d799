use Rattle.std.proofs.Common.{◌≡◌, take, flat_map}
use Rattle.arrow_column.specs.Column.{stored_values}
use Rattle.arrow_bytes.specs.Pieces.{bare_items}
use Rattle.arrow_kernels.proofs.concat_parts.concat_byte_values.Given as goal

abbrev pub invariant-loop-array : goal.invariant-loop-array
invariant-loop-array g l = l.joined ≡ bare_items (flat_map stored_values (take l.array-index l.arrays))
