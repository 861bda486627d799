-- What proofs of callers cite about kernels.

-- Mapping a function over a list before items of it are selected, by a filter or by keys, is the same as mapping it
-- after.
pub use Rattle.arrow_kernels.proofs.ChoiceLemmas.{keys-map, where-map}
-- The number of rows that a filter selects, and the number of items that marks select.
pub use Rattle.arrow_kernels.proofs.LawLemmas.{length-asked, length-where}
-- Items behind others: their number of bytes, that items that end at most at the greatest offset do not overflow, and
-- what a growth leaves.
pub use Rattle.arrow_kernels.proofs.ItemLemmas.{bare-fits, bare-grown}
-- How many bytes stored items have with a row more.
pub use Rattle.arrow_kernels.proofs.ItemLemmas.{more-bytes}
