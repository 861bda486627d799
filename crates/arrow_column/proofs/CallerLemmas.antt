-- What proofs of callers cite about columns.
use Rattle.std.proofs.Common.{◌≡◌}
use Rattle.arrow_memory.specs.Rows.{FitsMask}
use Rattle.arrow_column.specs.Column.{ColumnWith, IsColumn, column_with, mask_of, stored_values}
use Rattle.arrow_column.proofs.ColumnLemmas.{fits_by_held}
use Rattle.arrow_column.proofs.ColumnLemmas as column
-- A column without a mask: its rows are all valid, valid slots that are appended to it are values that are
-- appended, and it
-- holds no needless mask.
pub use Rattle.arrow_column.proofs.RowLemmas.{all-bare}
pub use Rattle.arrow_column.proofs.ColumnLemmas.{appended-values, needless-bare}
-- The slots of valid rows are their stored values; where no mask is held, all rows are valid.
pub use Rattle.arrow_column.proofs.ColumnLemmas.{slots_valid, valid_by_held}
-- The rows of stored values and a mask that fits: as many as the values, which they store; their marks, those of the
-- mask, or all set without one; and their slots.
pub use Rattle.arrow_column.proofs.RowLemmas.{length-rows, stored-rows}
pub use Rattle.arrow_column.proofs.SlotLemmas.{held-marks, bare-marks, held-shown, held-null, bare-shown}
-- The slot at an index, by its stored value and its mark; a null, by its mark; a value that a slot shows is stored.
pub use Rattle.arrow_column.proofs.RowLemmas.{slot-at, null-at}
pub use Rattle.arrow_column.proofs.SlotLemmas.{shown-stored}
-- A builder shows what was appended: one slot, and many.
pub use Rattle.arrow_column.proofs.SlotLemmas.{one-slot, many-slots}
-- Slots that are appended as they are, none of which is more than a vector can count.
pub use Rattle.arrow_column.proofs.AppendLemmas.{never-over, same-slots}
-- Slots that can be counted after one more.
pub use Rattle.arrow_column.proofs.AppendLemmas.{fit-more}
-- The parts of a column make it again.
pub use Rattle.arrow_column.proofs.ColumnLemmas.{column_again}
-- How many slots a column has, and how many marks its mask.
pub use Rattle.arrow_column.proofs.ValidLemmas.{length-mask, length-slots}
-- Rows of which no mark is clear are all valid; the marks of such rows, and of a column without a mask, are set.
pub use Rattle.arrow_column.proofs.ValidLemmas.{all-valid, set-at, set-without_mask}
-- Rows that are all valid are those of their stored values without a mask, which show these.
pub use Rattle.arrow_column.proofs.ColumnLemmas.{rows-valid}
pub use Rattle.arrow_column.proofs.SlotLemmas.{bare-slots}
-- Marks that are set in both of two lists: how many there are, one of them, and 64, found in words.
pub use Rattle.arrow_column.proofs.BothLemmas.{both-at, both-clear, both-found, both-word, length-both}

module _ {A S : Type 0} (c : ColumnWith A S) where
  pub parts_again : IsColumn c → column_with c.data_type c.around (stored_values c) (mask_of c) ≡ c
  parts_again is_column = column.column_again c.data_type c.around c.held c.rows is_column

  pub parts_fit : FitsMask (stored_values c) (mask_of c)
  parts_fit = fits_by_held c.held c.rows
