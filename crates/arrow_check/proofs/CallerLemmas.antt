-- What proofs of callers cite about texts, and about the items that offsets cut out of bytes.

-- Text by Unicode's table is the UTF-8 of Rattle's library.
pub use Rattle.arrow_check.proofs.Utf8Lemmas.{well_formed-IsUtf8}
-- The items that offsets cut out of bytes: how many there are, and the bytes of each.
pub use Rattle.arrow_check.proofs.PlaceLemmas.{item-at, length-items}
