use Rattle.std.proofs.Common.{arith}
use Rattle.arrow_types.proofs.CallerLemmas.{length-between}
use Rattle.arrow_check.proofs.ItemLemmas.{skips}
use Rattle.arrow_check.proofs.values_iter.ArrayValuesIter.nth.Goals as goal

pub returns-clause-steps : goal.returns-clause-steps
returns-clause-steps g c =
    let s = c.args.self.now in
    let items = g.A.ArrayAccessor.items s.array.now in
    let left = length-between items s.index s.end c.requires.1 in
    skips g.A.ArrayAccessor.seen items s.index s.end c.args.n c.next.result _ (omega (
      arith,
      left,
      c.len-left.ensures,
    )) c.requires.1 c.next.ensures.steps
