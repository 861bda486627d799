use Rattle.arrow_column.proofs.ColumnLemmas.{slots_valid, valid_by_held}
use Rattle.arrow_column.proofs.laws.no_mask.Goals as goal

pub returns-clause-slots : goal.returns-clause-slots
returns-clause-slots g c = λ column is_column none.
    slots_valid column.rows (valid_by_held column.held column.rows is_column none)
