use Rattle.arrow_kernels.proofs.KeyLemmas.{keyed, keyed-permuted, permuted-within}
use Rattle.arrow_kernels.proofs.laws.keyed_items.Goals as goal

pub returns-clause-indexes : goal.returns-clause-indexes
returns-clause-indexes g c = λ xs keys once. (once.0, permuted-within xs keys once.1)

pub returns-clause-each : goal.returns-clause-each
returns-clause-each g c = λ xs d keys fit. keyed xs d fit.0 keys fit.1

pub returns-clause-permuted : goal.returns-clause-permuted
returns-clause-permuted g c = λ xs d keys once. keyed-permuted xs d once.0 keys once.1
