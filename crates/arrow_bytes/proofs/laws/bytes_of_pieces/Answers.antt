use Rattle.arrow_bytes.proofs.BackLemmas.{items-back, last-offset, lead-back, legal-offsets, tail-back, within-back}
use Rattle.arrow_bytes.proofs.laws.bytes_of_pieces.Goals as goal

pub returns-clause-legal : goal.returns-clause-legal
returns-clause-legal c = legal-offsets

pub returns-clause-last : goal.returns-clause-last
returns-clause-last c = last-offset

pub returns-clause-within : goal.returns-clause-within
returns-clause-within c = within-back

pub returns-clause-lead : goal.returns-clause-lead
returns-clause-lead c = lead-back

pub returns-clause-items : goal.returns-clause-items
returns-clause-items c = items-back

pub returns-clause-tail : goal.returns-clause-tail
returns-clause-tail c = tail-back
