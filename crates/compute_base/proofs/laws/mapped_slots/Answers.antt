use Rattle.std.proofs.lemmas.Option.{slice_get-map}
use Rattle.arrow_types.proofs.CallerLemmas.{map-map}
use Rattle.compute_base.proofs.laws.mapped_slots.Goals as goal

pub returns-clause-slot : goal.returns-clause-slot
returns-clause-slot g c = slice_get-map

pub returns-clause-twice : goal.returns-clause-twice
returns-clause-twice g c = λ first slots second. map-map second first slots
