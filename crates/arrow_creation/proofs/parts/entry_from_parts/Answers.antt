use Rattle.arrow_creation.proofs.parts.entry_from_parts.Goals as goal

pub returns-in-Pieces-clause-exact : goal.returns-in-Pieces-clause-exact
returns-in-Pieces-clause-exact g c = rw c.in-Pieces.is c.bytes_from_parts.ensures.exact
