use Rattle.std.proofs.Common.{◌≡◌, ◌++◌, IsTrue, length, map}
use Rattle.std.specs.List.{list_all}
use Rattle.arrow_model.specs.Item.{value, fits, stored_item}
use Rattle.arrow_model.specs.Kind.{native}
use Rattle.arrow_commands.proofs.values.natives.Given as goal

-- what was taken stands before what is left, which is all of this value kind
abbrev pub invariant-loop-item : goal.invariant-loop-item
invariant-loop-item g l =
    (map value l.values.items ++ map stored_item l.rest ≡ map stored_item l.fn.items)
    × IsTrue (list_all (fits native) (map stored_item l.rest))

abbrev pub decreases-loop-item : goal.decreases-loop-item
decreases-loop-item g l = length l.rest
