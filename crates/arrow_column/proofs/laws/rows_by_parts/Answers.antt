use Rattle.arrow_column.proofs.ColumnLemmas.{rows_by_held}
use Rattle.arrow_column.proofs.laws.rows_by_parts.Goals as goal

pub returns : goal.returns
returns g c = λ column is_column. rows_by_held column.held column.rows is_column
