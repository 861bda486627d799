use Rattle.std.proofs.Common.{map, ap, sym, ◌∙◌, arith}
use Rattle.std.proofs.lemmas.List.{drop_all}
use Rattle.arrow_memory.proofs.OffsetLemmas.{last_after, end-within}
use Rattle.arrow_memory.proofs.offset.faults.first_broken_rule.Goals as goal

pub returns-clause-within : goal.returns-clause-within
returns-clause-within g c = λ _.
    let loop = c.loop-offset in
    let number = g.O.Offset.number in
    let seen = ap (λ xs. last_after loop.before (map number xs)) (drop_all loop.offset-index c.args.offsets.now
    (omega arith)) in
    end-within number c.args.offsets.now c.in-Some-try_to_usize.start loop.before g.O.Offset.most (sym seen
    ∙ loop.invariant.end c.if-falls.false) loop.invariant.within
