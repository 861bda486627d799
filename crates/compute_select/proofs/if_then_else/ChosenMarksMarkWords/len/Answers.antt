use Rattle.std.proofs.Common.{arith}
use Rattle.compute_select.proofs.ChoiceLemmas.{length-marks}
use Rattle.compute_select.proofs.if_then_else.ChosenMarksMarkWords.len.Goals as goal

pub returns : goal.returns
returns g c = omega (
  arith,
  c.min.ensures,
  c.min-2.ensures,
  c.len.ensures,
  c.len-2.ensures,
  c.len-3.ensures,
  length-marks c.args.self.now.predicate.now.rows (g.A.Array.column c.args.self.now.lhs.now).rows
      (g.A.Array.column c.args.self.now.rhs.now).rows,
)
