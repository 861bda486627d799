use Rattle.std.proofs.Common.{◌≡◌, ◌++◌, IsTrue, length, map}
use Rattle.std.specs.List.{list_all}
use Rattle.arrow_model.specs.Item.{bit, fits, stored_item}
use Rattle.arrow_model.specs.Kind.{boolean}
use Rattle.arrow_commands.proofs.values.bits.Given as goal

-- what was taken stands before what is left, which is all of this value kind
abbrev pub invariant-loop-item : goal.invariant-loop-item
invariant-loop-item g l =
    (map bit l.bits ++ map stored_item l.rest ≡ map stored_item l.fn.items)
    × IsTrue (list_all (fits boolean) (map stored_item l.rest))

abbrev pub decreases-loop-item : goal.decreases-loop-item
decreases-loop-item g l = length l.rest
