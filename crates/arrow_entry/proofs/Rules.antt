-- What rows use of how columns are seen: rulesets over the laws of `erase_type`.
use Rattle.arrow_column.proofs.CallerLemmas.{length-slots}
use Rattle.arrow_entry.proofs.Seen.{parts-seen, append-seen, appends-seen, values-seen, nulls-seen, short-seen}
use Rattle.arrow_entry.proofs.Seen.{frozen-seen, slot-seen, mask-seen, with-stored-seen, with-type-seen, same-values}
use Rattle.arrow_entry.proofs.Seen.{same-bits, same-pieces, freeze-pieces, freeze-plain, thaw-pieces, thaw-plain}
use Rattle.arrow_entry.proofs.SlotLemmas.{grown-by, whole}

pub ruleset seen_changes
    = (
      parts-seen,
      append-seen,
      appends-seen,
      values-seen,
      nulls-seen,
      short-seen,
      frozen-seen,
      slot-seen,
      mask-seen,
      with-stored-seen,
      with-type-seen,
    )

pub ruleset seen_slots = (same-values, same-bits, same-pieces)

pub ruleset seen_freezes = (freeze-pieces, freeze-plain, thaw-plain)

pub ruleset seen_thaws = (thaw-pieces, thaw-plain)

pub ruleset slot_lists = (grown-by, whole, length-slots)
