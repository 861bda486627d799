use Rattle.std.proofs.Common.{arith}
use Rattle.compute_select.proofs.NullLemmas.{length-differing}
use Rattle.compute_select.proofs.nullif.DifferingMarksMarkWords.len.Goals as goal

pub returns : goal.returns
returns g c = omega (
  arith,
  c.min.ensures,
  c.len.ensures,
  c.len-2.ensures,
  length-differing g.A.EqualArray.equal (g.A.Array.column c.args.self.now.lhs.now).rows
      (g.A.Array.column c.args.self.now.rhs.now).rows,
)
