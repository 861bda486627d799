-- What proofs of kernels cite about words, masks, and arrays that are made slot by slot.

-- The elements before an index and the one at it, in order; a list that goes on by the next element of another.
pub use Rattle.compute_base.proofs.ListLemmas.{next-taken}
-- What is made of the elements of lists: how many, at one index, and once more.
pub use Rattle.compute_base.proofs.ListLemmas.{length-of_pairs}
-- What is made of the two elements at each index: with them exchanged, made the same, and with more made of it.
pub use Rattle.compute_base.proofs.ListLemmas.{map-pairwise, pairwise-same, pairwise-swapped}
-- The bits of a word as marks: their number, and the one at an index.
pub use Rattle.compute_base.proofs.BitLemmas.{bits-at}
-- Whether all marks are set, by the number of clear ones; the marks of rows that are all valid.
pub use Rattle.compute_base.proofs.MaskLemmas.{all-set, set-marks}
-- A mask that is held is the marks of the slots; without one each is set.
pub use Rattle.compute_base.proofs.MaskLemmas.{length-mask}
-- The stored values of rows, and their marks.
pub use Rattle.compute_base.proofs.MaskLemmas.{marks}
pub use Rattle.compute_base.proofs.SlotLemmas.{values}
-- Marks that are set in both of two lists, and in both of two masks of equally many slots.
pub use Rattle.compute_base.proofs.MaskLemmas.{both-under, in_both, length-both, length-in_both}
-- The mask of a column as marks; which mask fits values, and fits marks; the rows of values by a mask.
pub use Rattle.compute_base.proofs.MaskLemmas.{column-under, fits-marks, fits-under, length-under, rows-under}
-- The masks of two arrays of equally many slots, as marks; what is made of their stored values.
pub use Rattle.compute_base.proofs.SlotLemmas.{length-masks, length-pairs, masks-under}
-- How many slots an array has that is made of two arrays, and of one.
pub use Rattle.compute_base.proofs.SlotLemmas.{count-combined, count-mapped}
-- The parts of an array that is made of two arrays, and of one: its values and its mask fit, and make its slots.
pub use Rattle.compute_base.proofs.SlotLemmas.{combination-fits, makes-combination, makes-mapped, mapped-fits}
-- The same where a function has no result for some values: then marks are set where it has one, and a mask is held.
pub use Rattle.compute_base.proofs.PartialLemmas.{checked-map-fits, held-with, makes-checked-map, marks-fit}
-- Whether a value is the zero of its type, by its number.
pub use Rattle.compute_base.proofs.PartialLemmas.{zero-number}
