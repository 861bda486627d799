use Rattle.arrow_column.proofs.CallerLemmas.{parts_again, parts_fit}
use Rattle.arrow_column.proofs.laws.parts_again.Goals as goal

pub returns-clause-fits : goal.returns-clause-fits
returns-clause-fits g c = parts_fit

pub returns-clause-same : goal.returns-clause-same
returns-clause-same g c = parts_again
