use Rattle.std.proofs.Common.{arith}
use Rattle.compute_comparison.proofs.NullLemmas.{length-tested_slots}
use Rattle.compute_comparison.proofs.comparison.words.SlotPairsMarkWords.len.Goals as goal

pub returns : goal.returns
returns g c = omega (
  arith,
  c.min.ensures,
  c.len.ensures,
  c.len-2.ensures,
  length-tested_slots g.A.EqualArray.equal g.C.Equality.holds (g.A.Array.column c.args.self.now.lhs.now).rows
      (g.A.Array.column c.args.self.now.rhs.now).rows,
)
