-- Lemmas for proofs of crates that call this one.

-- parts that are joined by spaces: the first, and then a space before each other one
pub use Rattle.arrow_syntax.proofs.Joined.{joined}
-- for a loop over the lines of a text by `split_line`: the length of the text that follows, which is the loop's measure,
-- and that it is shorter than the text before
pub use Rattle.arrow_syntax.proofs.Pieces.{after_shorter, length_after}
-- a reader whose value is converted reads the same words
pub use Rattle.arrow_syntax.proofs.Each.{reads_some}
