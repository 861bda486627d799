use Rattle.arrow_check.proofs.PlaceLemmas.{fall-is-fault, never-falls}
use Rattle.arrow_check.proofs.laws.offsets_never_fall.Goals as goal

pub returns-clause-order : goal.returns-clause-order
returns-clause-order c = never-falls

pub returns-clause-rules : goal.returns-clause-rules
returns-clause-rules c = fall-is-fault
