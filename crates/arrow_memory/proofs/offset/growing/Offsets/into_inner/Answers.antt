use Rattle.std.proofs.Common.{ap, ◌∙◌}
use Rattle.arrow_memory.specs.Offsets.{first_fault}
use Rattle.arrow_memory.proofs.OffsetLemmas.{legal-faultless}
use Rattle.arrow_memory.proofs.offset.growing.Offsets.into_inner.Goals as goal

pub returns-clause-legal : goal.returns-clause-legal
returns-clause-legal g c = ap first_fault c.self.invariant.whole ∙ legal-faultless _ c.self.invariant.legal
