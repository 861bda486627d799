use Rattle.std.proofs.Common.{ap, length, map, ◌∙◌}
use Rattle.std.proofs.lemmas.List.Concat.{length-flat_map}
use Rattle.arrow_types.proofs.CallerLemmas.{map-flat_map}
use Rattle.arrow_memory.specs.Rows.{slot}
use Rattle.arrow_kernels.proofs.JoinLemmas.{made-rows, made-type}
use Rattle.arrow_kernels.proofs.laws.concatenated_slots.Goals as goal

pub returns-clause-slots : goal.returns-clause-slots
returns-clause-slots g c = λ nothing columns made is.
    ap (map slot) (made-rows nothing columns made is) ∙ map-flat_map slot (λ column. column.rows) columns

pub returns-clause-values : goal.returns-clause-values
returns-clause-values g c = λ nothing columns made is.
    ap (map (λ row. row.0)) (made-rows nothing columns made is)
    ∙ map-flat_map (λ row. row.0) (λ column. column.rows) columns

pub returns-clause-count : goal.returns-clause-count
returns-clause-count g c = λ nothing columns made is.
    ap length (made-rows nothing columns made is) ∙ length-flat_map (λ column. column.rows) columns

pub returns-clause-data_type : goal.returns-clause-data_type
returns-clause-data_type g c = λ nothing first others made is. made-type nothing first others made is
