use Rattle.std.proofs.lemmas.List.{map-append}
use Rattle.arrow_memory.specs.Rows.{slot}
use Rattle.arrow_column.proofs.laws.joined_slots.Goals as goal

pub returns : goal.returns
returns g c = λ column other. map-append slot column.rows other.rows
