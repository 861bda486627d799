use Rattle.std.proofs.Common.{arith}
use Rattle.arrow_bitmap.proofs.CountLemmas.{clear-halves}
use Rattle.arrow_bitmap.proofs.counts.SetMarks.add_four.Goals as goal

pub returns : goal.returns
returns c = omega (
  arith,
  clear-halves c.args.bytes.now c.args.first,
  c.add_half.ensures,
  c.add_half-2.ensures,
)
