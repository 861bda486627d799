use Rattle.example_record_batch.proofs.LawLemmas.{rows-concat}
use Rattle.example_record_batch.proofs.laws.rows_of_concat.Goals as goal

pub returns : goal.returns
returns c = rows-concat
