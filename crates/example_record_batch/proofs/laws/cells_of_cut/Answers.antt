use Rattle.example_record_batch.proofs.LawLemmas.{cells-cut}
use Rattle.example_record_batch.proofs.laws.cells_of_cut.Goals as goal

pub returns : goal.returns
returns c = cells-cut
