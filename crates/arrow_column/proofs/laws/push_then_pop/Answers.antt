use Rattle.arrow_column.proofs.ColumnLemmas.{pushed-slot, pushed-rows}
use Rattle.arrow_column.proofs.laws.push_then_pop.Goals as goal

pub returns-clause-slot : goal.returns-clause-slot
returns-clause-slot g c = λ default column shown. pushed-slot default column shown

pub returns-clause-rows : goal.returns-clause-rows
returns-clause-rows g c = λ default column shown. pushed-rows default column shown
