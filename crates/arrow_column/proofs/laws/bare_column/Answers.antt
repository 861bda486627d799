use Rattle.arrow_column.proofs.ColumnLemmas.{needless-bare}
use Rattle.arrow_column.proofs.RowLemmas.{all-bare}
use Rattle.arrow_column.proofs.laws.bare_column.Goals as goal

pub returns-clause-needless : goal.returns-clause-needless
returns-clause-needless g c = λ column is_column bare. needless-bare column is_column bare

pub returns-clause-bare : goal.returns-clause-bare
returns-clause-bare g c = λ t around values held. all-bare values
