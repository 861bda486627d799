use Rattle.std.proofs.Common.{arith}
use Rattle.compute_aggregate.proofs.AggregateLemmas as lemma
use Rattle.compute_aggregate.proofs.aggregate.count.count_valid.Goals as goal

pub overflow_sub-result : goal.overflow_sub-result
overflow_sub-result g c = omega (arith, c.len.ensures, c.null_count.ensures, lemma.count_valid (g.A.Array.column c.args.array.now))

pub returns : goal.returns
returns g c = omega (arith, c.len.ensures, c.null_count.ensures, lemma.count_valid (g.A.Array.column c.args.array.now))
