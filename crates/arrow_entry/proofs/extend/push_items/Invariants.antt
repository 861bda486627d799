use Rattle.std.proofs.Common.{◌≡◌, IsTrue, Option, Some, length, map}
use Rattle.std.specs.List.{list_all}
use Rattle.arrow_model.specs.Answer.{Answer}
use Rattle.arrow_model.specs.Value.{Value, types}
use Rattle.arrow_model.specs.Item.{fits, stored_item}
use Rattle.arrow_model.specs.Step.{Extends}
use Rattle.arrow_entry.specs.Entry.{value_of}
use Rattle.arrow_entry.proofs.extend.push_items.Given as goal

abbrev pub invariant-loop-item : goal.invariant-loop-item
invariant-loop-item g l =
    ((value_of l.entry).shape ≡ (value_of l.fn.entry).shape)
    × IsTrue (list_all (fits (value_of l.entry).shape.value_kind) (map stored_item l.rest))
    × ((reply : Answer g.row.T.Denot) (new : Option (Value g.row.T.Denot))
    → Extends (types g.T.NativeType.zero g.T.NativeType.PRIMITIVE g.O.Offset.most g.O.Offset.IS_LARGE)
    (value_of l.entry) (map Some (map stored_item l.rest)) reply new
    → Extends (types g.T.NativeType.zero g.T.NativeType.PRIMITIVE g.O.Offset.most g.O.Offset.IS_LARGE)
    (value_of l.fn.entry) (map Some (map stored_item l.fn.items)) reply new)

abbrev pub decreases-loop-item : goal.decreases-loop-item
decreases-loop-item g l = length l.rest
