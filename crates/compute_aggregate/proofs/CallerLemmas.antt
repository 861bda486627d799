-- What proofs of callers cite about aggregates of groups.

-- The values of a group among one pair more.
pub use Rattle.compute_aggregate.proofs.GroupLemmas.{values-more}
