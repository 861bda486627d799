use Rattle.example_record_batch.proofs.LawLemmas.{cells-filtered}
use Rattle.example_record_batch.proofs.laws.cells_of_filter.Goals as goal

pub returns : goal.returns
returns c = cells-filtered
