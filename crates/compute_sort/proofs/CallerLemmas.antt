-- What proofs of callers cite about sorts.

-- Indexes that are picked at most once each are below the number of elements.
pub use Rattle.compute_sort.proofs.TakeLemmas.{picks-below}
