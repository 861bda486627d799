use Rattle.arrow_types.proofs.CallerLemmas.{or-bit}
use Rattle.arrow_bitmap.proofs.ops.DisjunctionMarkOp.on_bytes.Goals as goal

pub returns : goal.returns
returns c = λ k low. or-bit c.args.first c.args.second k
