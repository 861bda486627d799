use Rattle.std.proofs.Common.{arith}
use Rattle.example_record_batch.proofs.callers.keep_first.Goals as goal

pub returns : goal.returns
returns c = rw c.slice.ensures (c.rows_of_cut.ensures c.args.batch.now 0 c.args.n (omega arith))
