-- What proofs of all crates cite about lists, options, numbers and the bits of words, by subject.

-- Lists as wholes: what is made of each element of another list, of joined lists, of equal elements, and of a list with
-- one element changed; of two lists that are made of one.
pub use Rattle.arrow_types.proofs.ListLemmas.{combined-maps, map-flat_map, map-map, map-replicate, map-slice_set}
-- What holds of each element holds of that at an index.
pub use Rattle.arrow_types.proofs.ListLemmas.{all-at}
-- The length of joined lists, and with a list more.
pub use Rattle.arrow_types.proofs.ListLemmas.{length-joined, length-push}
-- Marks: those of a list of set marks are set, and none is clear; all are set exactly where none is clear.
pub use Rattle.arrow_types.proofs.ListLemmas.{all-by_count, no-clear, set-mark}
-- The numbers below a number: one more, and that they are below it.
pub use Rattle.arrow_types.proofs.ListLemmas.{range-below, range-more}
-- The element at an index: that there is one; of a front of a list and of a rest; of a list with one element more, the
-- last and any; of what is made of a list or of two, and of pairs.
pub use Rattle.arrow_types.proofs.IndexLemmas.{get-combined, get-drop, get-last, get-map, get-push, get-some, get-take}
pub use Rattle.arrow_types.proofs.IndexLemmas.{get-zip}
-- Fronts of lists: with the next element, with a piece more, and with the last piece.
pub use Rattle.arrow_types.proofs.PieceLemmas.{all-pieces, more-pieces, take-next}
-- A number of elements from an index on: how many they are, a piece of them, what is made of them, and the element of
-- that at an index.
pub use Rattle.arrow_types.proofs.PieceLemmas.{get-piece, length-cut, length-piece, map-piece, piece-piece}
-- The elements from one index to another: their number, that there are none, the first of them and the last.
pub use Rattle.arrow_types.proofs.PieceLemmas.{between-first, between-last, between-none, length-between}
-- Fronts and rests of pairs.
pub use Rattle.arrow_types.proofs.PieceLemmas.{zip-drop, zip-take}
-- Booleans and options: a test that holds beside another, an option that is converted, the text of the first of two
-- faults, and the error that a `?` passes on.
pub use Rattle.arrow_types.proofs.OptionLemmas.{and-true, is_some-option_map, no-faults, no-second_fault, on-residual}
-- Numbers: the greater and the less of two of which one is zero, and the value of digits with more behind them.
pub use Rattle.arrow_types.proofs.NumberLemmas.{max-zero, min-zero, value-ge, zero-max}
-- The bits of words, as booleans: of one bit, of words that are made of others, and of all ones; zero has none that is
-- set.
pub use Rattle.arrow_types.proofs.BitLemmas.{all-ones, and-bit, not-bit, ones-zero, or-bit, other-bit}
-- A boolean at a place of a word, where all other bits are clear.
pub use Rattle.arrow_types.proofs.BitLemmas.{placed, placed-is, placed-other, placed-same}
-- The bits of a word from a place on: of the word that is moved, where none is left, and up to the next that is set.
pub use Rattle.arrow_types.proofs.BitLemmas.{bit-from, moved-bit, next-bit_gap, next-bit_set, next-bit_within}
pub use Rattle.arrow_types.proofs.BitLemmas.{no-bit_left}
