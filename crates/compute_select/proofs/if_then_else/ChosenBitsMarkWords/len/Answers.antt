use Rattle.std.proofs.Common.{arith}
use Rattle.compute_select.proofs.ChoiceLemmas.{length-chosen}
use Rattle.compute_select.proofs.if_then_else.ChosenBitsMarkWords.len.Goals as goal

pub returns : goal.returns
returns c = omega (
  arith,
  c.min.ensures,
  c.min-2.ensures,
  c.len.ensures,
  c.len-2.ensures,
  c.len-3.ensures,
  length-chosen c.args.self.now.predicate.now c.args.self.now.lhs.now c.args.self.now.rhs.now,
)
