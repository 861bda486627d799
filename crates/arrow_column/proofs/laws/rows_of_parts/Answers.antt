use Rattle.std.proofs.Common.{None, Some, refl, sym}
use Rattle.arrow_column.proofs.RowLemmas.{length-rows, mask-rows, stored-rows, valid-rows}
use Rattle.arrow_column.proofs.SlotLemmas.{bare-marks, held-marks}
use Rattle.arrow_column.proofs.laws.rows_of_parts.Goals as goal

pub returns-clause-is_column : goal.returns-clause-is_column
returns-clause-is_column g c = λ t around values mask bare. valid-rows values mask bare

pub returns-clause-values : goal.returns-clause-values
returns-clause-values g c = λ t around values mask fits. stored-rows values mask fits

pub returns-clause-count : goal.returns-clause-count
returns-clause-count g c = λ t around values mask fits. length-rows values mask fits

pub returns-clause-mask : goal.returns-clause-mask
returns-clause-mask g c = λ t around values mask fits. sym (mask-rows values mask fits)

pub returns-clause-marks : goal.returns-clause-marks
returns-clause-marks g c = λ t around values mask fits. held-marks values (Some mask) mask fits refl

pub returns-clause-all_set : goal.returns-clause-all_set
returns-clause-all_set g c = λ t around values. bare-marks values None refl
