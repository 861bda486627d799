use Rattle.std.proofs.Common.{◌≡◌, length, map}
use Rattle.std.specs.List.{list_all}
use Rattle.arrow_model.specs.Item.{fits, stored_item}
use Rattle.arrow_model.specs.Kind.{shape}
use Rattle.arrow_entry.proofs.fit.items_fit.Given as goal

abbrev pub invariant-loop-item : goal.invariant-loop-item
invariant-loop-item g l =
    list_all (fits (shape l.kind).value_kind) (map stored_item l.rest)
    ≡ list_all (fits (shape l.kind).value_kind) (map stored_item l.fn.items)

abbrev pub decreases-loop-item : goal.decreases-loop-item
decreases-loop-item g l = length l.rest
