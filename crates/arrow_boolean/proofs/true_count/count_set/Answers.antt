use Rattle.std.proofs.Common.{arith}
use Rattle.arrow_boolean.proofs.TruthLemmas.{clear-and-set}
use Rattle.arrow_boolean.proofs.true_count.count_set.Goals as goal

pub returns : goal.returns
returns c = omega (arith, clear-and-set c.args.marks.now)
