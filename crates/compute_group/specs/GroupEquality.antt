-- Whether two groupings are the same, as a test: what `==` of groups answers.
use Rattle.std.specs.Prelude.{◌≡◌, ◌&&◌, Bool}
use Rattle.std.specs.Bool.{Decides}
use Rattle.std.proofs.Common.{ap}
use Rattle.arrow_types.specs.Decisions.{both-Decides}
use Rattle.arrow_memory.specs.NumberEquality.{same_numbers, same_numbers-Decides}
use Rattle.compute_group.specs.Grouping.{GroupLists}

-- the same first slots, and the same number for each slot
abbrev pub same_groups : GroupLists → GroupLists → Bool
same_groups x y = same_numbers x.first y.first && same_numbers x.indices y.indices

pub same_groups-Decides : (x y : GroupLists) → Decides (same_groups x y) (x ≡ y)
same_groups-Decides x y =
    let d = both-Decides (same_numbers-Decides x.first y.first) (same_numbers-Decides x.indices y.indices) in (
      λ h. let p = d.0 h in λ i. record { first = p.0 i; indices = p.1 i },
      λ e. d.1 (ap (λ (lists : GroupLists). lists.first) e, ap (λ (lists : GroupLists). lists.indices) e),
    )
