-- What proofs of callers cite about results of kernels that have no null.
use Rattle.std.proofs.Common.{◌≡◌, Bool, true, List, length, map, Some, None}
use Rattle.std.proofs.lemmas.List.{length-map}
use Rattle.arrow_column.specs.Column.{slots_of}
use Rattle.arrow_memory.specs.Rows.{rows_of}
use Rattle.arrow_column.proofs.CallerLemmas.{bare-slots}
use Rattle.compute_comparison.specs.Slots.{booleans}

bare-rows : (values : List Bool) → length (rows_of values None) ≡ length values
bare-rows values = length-map values (λ value. (value, true))

-- an array of booleans has as many slots as there are, and shows them
pub length-booleans : (values : List Bool) → length (booleans values).rows ≡ length values
length-booleans values = bare-rows values

pub slots-booleans : (values : List Bool) → slots_of (booleans values) ≡ map Some values
slots-booleans values = bare-slots values
