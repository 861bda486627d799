-- What proofs of callers cite, by the crate that proves it: `Rattle.dethrugn.proofs.CallerLemmas.Column.{parts_again}`.

-- lists, options, numbers and the bits of words
pub use Rattle.arrow_types.proofs.CallerLemmas as Types
-- lists of offsets, and the bits of words as marks
pub use Rattle.arrow_memory.proofs.CallerLemmas as Memory
-- columns
pub use Rattle.arrow_column.proofs.CallerLemmas as Column
-- offsets and the items that they cut out
pub use Rattle.arrow_bytes.proofs.CallerLemmas as Bytes
-- kernels
pub use Rattle.arrow_kernels.proofs.CallerLemmas as Kernels
-- results of kernels that have no null
pub use Rattle.compute_comparison.proofs.CallerLemmas as Compute
-- groups of rows of several columns
pub use Rattle.compute_group.proofs.CallerLemmas as Group
-- aggregates of groups
pub use Rattle.compute_aggregate.proofs.CallerLemmas as Aggregate
-- sorts
pub use Rattle.compute_sort.proofs.CallerLemmas as Sort
