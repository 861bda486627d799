use Rattle.example_record_batch.proofs.LawLemmas.{cells-concat}
use Rattle.example_record_batch.proofs.laws.cells_of_concat.Goals as goal

pub returns : goal.returns
returns c = cells-concat
