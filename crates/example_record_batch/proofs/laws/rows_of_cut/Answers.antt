use Rattle.example_record_batch.proofs.LawLemmas.{rows-cut}
use Rattle.example_record_batch.proofs.laws.rows_of_cut.Goals as goal

pub returns : goal.returns
returns c = rows-cut
