use Rattle.arrow_column.proofs.ColumnLemmas.{appended-items, appended-masked, appended-nulls, appended-values}
use Rattle.arrow_column.proofs.laws.one_by_one.Goals as goal

pub returns-clause-values : goal.returns-clause-values
returns-clause-values g c = λ default column values. appended-values default column values

pub returns-clause-items : goal.returns-clause-items
returns-clause-items g c = λ shown default column items. appended-items shown default column items

pub returns-clause-nulls : goal.returns-clause-nulls
returns-clause-nulls g c = λ default column n some. appended-nulls default column n some

pub returns-clause-masked : goal.returns-clause-masked
returns-clause-masked g c = λ default column n. appended-masked default column n
