use Rattle.std.proofs.Common.{◌≡◌, ◌+◌, ◌*◌, ◌-◌, arith, subst}
use Rattle.compute_base.proofs.WordLemmas.{HoldFourths, all-fourths, behind, four-before, no-fourths}
use Rattle.compute_base.proofs.words.pack_whole.Goals as goal

pub loop-turn-init : goal.loop-turn-init
loop-turn-init g c = no-fourths (g.S.MarkSource.marks c.args.source.now) (c.args.place + (64 - 4 * 0))

pub loop-turn-preserved : goal.loop-turn-preserved
loop-turn-preserved g c =
    let marks = g.S.MarkSource.marks c.args.source.now in
    let l = c.loop-turn in
    let start = c.args.place + (60 - 4 * l.turn) in
    let before : c.args.place + (64 - 4 * l.turn) ≡ start + 4 = omega (arith, c.loop-turn-test.true) in
    let after : start ≡ c.args.place + (64 - 4 * (l.turn + 1)) = omega (arith, c.loop-turn-test.true) in
    let had = subst (λ j. HoldFourths l.first l.second l.third l.fourth marks j l.turn) before l.invariant in
    subst (λ j. HoldFourths (behind l.first c.from.result) (behind l.second c.from-in-loop-turn.result)
    (behind l.third c.from-in-loop-turn-2.result) (behind l.fourth c.from-in-loop-turn-3.result) marks j (l.turn + 1)) after
    (four-before l.first l.second l.third l.fourth marks start l.turn c.loop-turn-test.true had c.mark.result
    c.mark-in-loop-turn.result c.mark-in-loop-turn-2.result c.mark-in-loop-turn-3.result c.from.result
    c.from-in-loop-turn.result c.from-in-loop-turn-2.result c.from-in-loop-turn-3.result c.from.ensures
    c.from-in-loop-turn.ensures c.from-in-loop-turn-2.ensures c.from-in-loop-turn-3.ensures c.mark.ensures
    c.mark-in-loop-turn.ensures c.mark-in-loop-turn-2.ensures c.mark-in-loop-turn-3.ensures)

pub returns : goal.returns
returns g c =
    let marks = g.S.MarkSource.marks c.args.source.now in
    let l = c.loop-turn in
    let turns : l.turn ≡ 16 = omega (arith, c.loop-turn-test.false, l.auto.turn-end) in
    let start : c.args.place + (64 - 4 * l.turn) ≡ c.args.place = omega (arith, turns) in
    all-fourths l.first l.second l.third l.fourth marks c.args.place
    (subst (HoldFourths l.first l.second l.third l.fourth marks c.args.place) turns
    (subst (λ j. HoldFourths l.first l.second l.third l.fourth marks j l.turn) start l.invariant))
