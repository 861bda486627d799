use Rattle.arrow_entry.proofs.TurnLemmas.{back-turn, skip-turn}
use Rattle.arrow_entry.proofs.turns.turn_of.Goals as goal

pub returns-in-Back-clause-gives : goal.returns-in-Back-clause-gives
returns-in-Back-clause-gives g c = rw c.in-Back.is
    (back-turn g.I.TurnsIterator.seen c.last.result (g.I.TurnsIterator.left c.args.items.now)
    (g.I.TurnsIterator.left c.last.new.self) c.last.ensures.gives)

pub returns-in-Skip-clause-gives : goal.returns-in-Skip-clause-gives
returns-in-Skip-clause-gives g c = rw c.in-Skip.is
    (skip-turn g.I.TurnsIterator.seen c.in-Skip.n c.skip_to.result (g.I.TurnsIterator.left c.args.items.now)
    (g.I.TurnsIterator.left c.skip_to.new.self) c.skip_to.ensures.gives)
