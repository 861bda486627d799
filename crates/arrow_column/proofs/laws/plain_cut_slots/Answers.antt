use Rattle.arrow_types.proofs.CallerLemmas.{get-piece, length-cut, map-piece}
use Rattle.arrow_memory.specs.Rows.{slot}
use Rattle.arrow_column.proofs.laws.plain_cut_slots.Goals as goal

pub returns-clause-count : goal.returns-clause-count
returns-clause-count g c = λ column a n fits. length-cut column.rows a n fits.0 fits.1

pub returns-clause-slot : goal.returns-clause-slot
returns-clause-slot g c = λ column a n i low. get-piece slot column.rows a n i low

pub returns-clause-all : goal.returns-clause-all
returns-clause-all g c = λ column a n. map-piece slot column.rows a n
