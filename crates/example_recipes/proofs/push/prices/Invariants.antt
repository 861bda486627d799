use Rattle.std.proofs.Common.{◌≡◌, map, take}
use Rattle.dethrugn.specs.Column.{slots_of}
use Rattle.example_recipes.specs.Prices.{price_of}
use Rattle.example_recipes.proofs.push.prices.Given as goal

abbrev pub invariant-loop-number : goal.invariant-loop-number
invariant-loop-number l = slots_of l.builder ≡ map price_of (take l.number-index l.numbers)
