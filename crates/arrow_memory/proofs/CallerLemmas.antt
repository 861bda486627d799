-- What proofs of callers cite about lists of offsets and the bits of words as marks.

-- Offsets that are read one by one: the list of their numbers is as long as the values, a value that is read at a
-- place has
-- the number at that place, and it is not negative.
pub use Rattle.arrow_memory.proofs.OffsetLemmas.{length-numbers, value-at, not-negative}
-- A cut of legal offsets is legal offsets.
pub use Rattle.arrow_memory.proofs.OffsetLemmas.{legal-piece}
-- The bits of a word as marks: how many there are, and as the next marks of a list.
pub use Rattle.arrow_memory.proofs.MarkLemmas.{length-bits, take-bits}
