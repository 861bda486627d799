use Rattle.compute_sort.proofs.PartitionLemmas.{differ-at-starts, equal-within, follow-each-other}
use Rattle.compute_sort.proofs.laws.partitioned_rows.Goals as goal

pub returns-clause-equal : goal.returns-clause-equal
returns-clause-equal c = equal-within

pub returns-clause-differ : goal.returns-clause-differ
returns-clause-differ c = differ-at-starts

pub returns-clause-follow : goal.returns-clause-follow
returns-clause-follow c = follow-each-other
