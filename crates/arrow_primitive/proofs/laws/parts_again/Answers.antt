use Rattle.arrow_column.proofs.CallerLemmas.{parts_again}
use Rattle.arrow_primitive.proofs.laws.parts_again.Goals as goal

pub returns-clause-same : goal.returns-clause-same
returns-clause-same g c = parts_again
