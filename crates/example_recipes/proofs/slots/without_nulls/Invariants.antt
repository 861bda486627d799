use Rattle.std.proofs.Common.{◌≡◌, map, take}
use Rattle.dethrugn.specs.Column.{slots_of}
use Rattle.example_recipes.specs.Slots.{zero_for_null}
use Rattle.example_recipes.proofs.slots.without_nulls.Given as goal

abbrev pub invariant-loop-i : goal.invariant-loop-i
invariant-loop-i l = slots_of l.builder ≡ map zero_for_null (take l.i (slots_of l.array))
