use Rattle.std.proofs.Common.{◌+◌, ◌*◌, ◌-◌}
use Rattle.compute_base.proofs.WordLemmas.{HoldFourths}
use Rattle.compute_base.proofs.words.pack_whole.Given as goal

abbrev pub invariant-loop-turn : goal.invariant-loop-turn
invariant-loop-turn g l = HoldFourths l.first l.second l.third l.fourth (g.S.MarkSource.marks l.source)
    (l.place + (64 - 4 * l.turn)) l.turn
