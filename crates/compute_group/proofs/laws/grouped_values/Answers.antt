use Rattle.arrow_column.specs.Column.{slots_of}
use Rattle.compute_group.proofs.GroupLemmas.{same-numbers, same-slots}
use Rattle.compute_group.proofs.laws.grouped_values.Goals as goal

pub returns-clause-slots : goal.returns-clause-slots
returns-clause-slots g c = λ column first numbers groups. same-slots (slots_of column) first numbers groups

pub returns-clause-numbers : goal.returns-clause-numbers
returns-clause-numbers g c = λ column first numbers groups. same-numbers (slots_of column) first numbers groups
