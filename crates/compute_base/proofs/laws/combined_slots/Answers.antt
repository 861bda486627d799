use Rattle.compute_base.proofs.ListLemmas.{get-pairwise, map-pairwise, pairwise-maps}
use Rattle.compute_base.proofs.laws.combined_slots.Goals as goal

pub returns-clause-slot : goal.returns-clause-slot
returns-clause-slot g c = get-pairwise

pub returns-clause-of_one : goal.returns-clause-of_one
returns-clause-of_one g c = pairwise-maps

pub returns-clause-twice : goal.returns-clause-twice
returns-clause-twice g c = map-pairwise
