-- What proofs of callers cite about entries: how a column is seen over what slots store, whatever their sort.

-- Reading a column that is seen so: the number of its rows, type, mask, what is around, stored values, marks,
-- slots, and the last slot.
pub use Rattle.arrow_entry.proofs.Seen.{seen_reads}
-- Reading one place of it, or past its end; and that it has as many stored values as rows.
pub use Rattle.arrow_entry.proofs.Seen.{seen_places, seen_counts}
-- What a slot shows, by its mark and stored value; and its mark, by the mask or where none is held.
pub use Rattle.arrow_entry.proofs.SlotLemmas.{slot_reads, slot_marks}
-- Lists of slots that grow by what is read at each place.
pub use Rattle.arrow_entry.proofs.Rules.{slot_lists}
-- Changing a column: parts, appended slots, values and nulls, one slot, the mask, the stored values, the type.
pub use Rattle.arrow_entry.proofs.Rules.{seen_changes}
pub use Rattle.arrow_entry.proofs.Seen.{parts-seen, stored-seen, with-stored-seen}
-- Comparing the slots of two columns, freezing and thawing.
pub use Rattle.arrow_entry.proofs.Rules.{seen_slots, seen_freezes, seen_thaws}
pub use Rattle.arrow_entry.proofs.Seen.{same-bits}
-- Changing the rows of a column: pushes, removals and joins, cuts, masks; and the bytes of items.
pub use Rattle.arrow_entry.proofs.Seen.{seen_pushes, seen_grows, seen_cuts, seen_masks, seen_bytes}
pub use Rattle.arrow_entry.proofs.Seen.{held-seen, length-seen, mask-seen, frozen-seen}
-- Lists of the numbers of offsets.
pub use Rattle.arrow_entry.proofs.SlotLemmas.{number_lists, number-sign}
-- A transition of one entry is a step of the list of entries: where one is changed or stays, and what the others hold then.
pub use Rattle.arrow_entry.proofs.Steps.{at-transition, stays-transition, got, others-stay, set-same, set-twice, none-yet}
