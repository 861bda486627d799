use Rattle.std.proofs.Common.{arith, false, true}
use Rattle.std.proofs.lemmas.List.{length-map}
use Rattle.std.proofs.lemmas.Option.{slice_get_within}
use Rattle.arrow_memory.specs.Rows.{slot}
use Rattle.arrow_column.specs.Column.{marks_of}
use Rattle.arrow_column.proofs.RowLemmas.{null-at, slot-at}
use Rattle.arrow_column.proofs.SlotLemmas.{shown-stored}
use Rattle.arrow_column.proofs.laws.slots_by_rows.Goals as goal

pub returns-clause-count : goal.returns-clause-count
returns-clause-count g c = λ column. length-map column.rows slot

pub returns-clause-stored : goal.returns-clause-stored
returns-clause-stored g c = λ column i value shown. shown-stored column.rows i value shown

pub returns-clause-valid : goal.returns-clause-valid
returns-clause-valid g c = λ column i value marked stored. slot-at column.rows i value true stored marked

pub returns-clause-null : goal.returns-clause-null
returns-clause-null g c = λ column i marked.
    null-at column.rows i
    (omega (
      arith,
      slice_get_within (marks_of column) i false marked,
      length-map column.rows (λ row. row.1),
    )) marked
