use Rattle.std.proofs.Common.{◌≡◌, flat_map}
use Rattle.std.proofs.lemmas.Result.{IfOk-weaker}
use Rattle.dethrugn.specs.Column.{slots_of}
use Rattle.dethrugn.specs.Around.{nothing_around}
use Rattle.example_recipes.proofs.rows.join.Goals as goal

pub returns-clause-ok : goal.returns-clause-ok
returns-clause-ok c =
    IfOk-weaker c.concat_utf8.result _ (λ made. slots_of made ≡ flat_map slots_of c.args.arrays.now)
    (λ made both. c.concatenated_slots.ensures.slots nothing_around c.args.arrays.now made both.1)
    c.concat_utf8.ensures.ok
