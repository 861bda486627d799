use Rattle.arrow_entry.proofs.TurnLemmas.{nth-is}
use Rattle.arrow_entry.proofs.turns.IterTurnsIterator.skip_to.Goals as goal

pub returns-clause-gives : goal.returns-clause-gives
returns-clause-gives g c = nth-is c.args.self.now c.nth.new.self c.args.n c.nth.result c.nth.ensures.ran
