use Rattle.example_record_batch.proofs.LawLemmas.{cell-count}
use Rattle.example_record_batch.proofs.laws.cell_count.Goals as goal

pub returns : goal.returns
returns c = cell-count
