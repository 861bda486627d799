use Rattle.arrow_types.proofs.CallerLemmas.{and-bit}
use Rattle.arrow_bitmap.proofs.ops.ConjunctionMarkOp.on_bytes.Goals as goal

pub returns : goal.returns
returns c = λ k low. and-bit c.args.first c.args.second k
