use Rattle.example_record_batch.proofs.LawLemmas.{row-cut}
use Rattle.example_record_batch.proofs.laws.row_of_cut.Goals as goal

pub returns : goal.returns
returns c = row-cut
