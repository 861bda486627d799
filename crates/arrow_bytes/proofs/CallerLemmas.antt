-- What proofs of callers cite about offsets, and the items that they cut out of bytes.

-- Legal offsets and the bytes in which they lie are those of the three pieces that they cut.
pub use Rattle.arrow_bytes.proofs.PieceLemmas.{bytes-again, offsets-again}
-- The way back: the offsets and bytes of three pieces cut them out again, and those of a column make it again. The last
-- offset is within the bytes, and a tail is what lies behind it.
pub use Rattle.arrow_bytes.proofs.BackLemmas.{around-back, column-back, end-back, items-back, within-back}
-- The offsets of items: how many there are, the last of them, and that they are legal.
pub use Rattle.arrow_bytes.proofs.BackLemmas.{last-offset, legal-offsets, length-offsets}
-- Items by places: the bytes between an offset and the next, and how many there are.
pub use Rattle.arrow_check.proofs.CallerLemmas.{item-at, length-items}
-- Items behind others: offsets that are moved behind others cut the items of both out of the bytes of both, at
-- whose end
-- the last of them lies.
pub use Rattle.arrow_bytes.proofs.PieceLemmas.{ends-joined, items-joined}
-- The items that some of the offsets cut are some of the items, the last of these offsets is not above the last of all,
-- and the number of bytes from the first offset to the last is that of the items.
pub use Rattle.arrow_bytes.proofs.PieceLemmas.{items-cut, last-window, window-long}
-- Lists of items of a kind: none, and one more.
pub use Rattle.arrow_bytes.proofs.KindLemmas.{no-items, push-of}
