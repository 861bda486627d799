use Rattle.std.proofs.Common.{sym, ◌∙◌}
use Rattle.arrow_memory.specs.Rows.{slot}
use Rattle.arrow_bytes.specs.Selection.{asked}
use Rattle.arrow_kernels.proofs.ChoiceLemmas.{where-map}
use Rattle.arrow_kernels.proofs.LawLemmas.{length-asked, length-where}
use Rattle.arrow_kernels.proofs.laws.filtered_slots.Goals as goal

pub returns-clause-marks : goal.returns-clause-marks
returns-clause-marks g c = λ filter. length-asked filter

pub returns-clause-count : goal.returns-clause-count
returns-clause-count g c = λ nothing column filter long.
    length-where (asked filter) column.rows (length-asked filter ∙ long)

pub returns-clause-slots : goal.returns-clause-slots
returns-clause-slots g c = λ nothing column filter. sym (where-map slot (asked filter) column.rows)

pub returns-clause-values : goal.returns-clause-values
returns-clause-values g c = λ nothing column filter. sym (where-map (λ row. row.0) (asked filter) column.rows)
