use Rattle.std.proofs.lemmas.Option.{slice_get-map}
use Rattle.arrow_column.proofs.ColumnLemmas.{mask-mark}
use Rattle.arrow_column.proofs.laws.mask_bits.Goals as goal

pub returns-clause-at_place : goal.returns-clause-at_place
returns-clause-at_place g c = λ column mask i held. mask-mark column.held column.rows mask i held

pub returns-clause-row : goal.returns-clause-row
returns-clause-row g c = λ column i. slice_get-map (λ row. row.1) column.rows i
