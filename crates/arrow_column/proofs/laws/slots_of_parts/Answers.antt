use Rattle.std.proofs.Common.{refl}
use Rattle.arrow_column.proofs.SlotLemmas.{bare-slots}
use Rattle.arrow_column.proofs.laws.slots_of_parts.Goals as goal

pub returns-clause-masked : goal.returns-clause-masked
returns-clause-masked g c = λ t around values mask. refl

pub returns-clause-bare : goal.returns-clause-bare
returns-clause-bare g c = λ t around values. bare-slots values
