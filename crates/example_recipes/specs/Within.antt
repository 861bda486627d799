-- Whether values lie in a range.
use Rattle.std.specs.Prelude.{Bool, Option}
use Rattle.std.specs.Ordering.{is_ge, is_lt}
use Rattle.std.specs.declared.cmp.Ordering.{Ordering}
use Rattle.dethrugn.specs.Comparison.{compare_slot}
use Rattle.dethrugn.specs.Kleene.{kleene_and}

-- whether a slot is at least one value and less than another; null where the slot is null
abbrev pub within_slot : {X : Type 0} → (X → X → Ordering) → X → X → Option X → Option Bool
within_slot cmp low high slot = kleene_and (compare_slot is_ge cmp low slot) (compare_slot is_lt cmp high slot)
