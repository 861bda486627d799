use Rattle.example_record_batch.proofs.LawLemmas.{rows-filtered}
use Rattle.example_record_batch.proofs.laws.rows_of_filter.Goals as goal

pub returns : goal.returns
returns c = rows-filtered
