use Rattle.std.proofs.Common.{◌≡◌, ◌∙◌, ap}
use Rattle.std.proofs.lemmas.Result.{IfOk-weaker}
use Rattle.dethrugn.specs.Column.{slots_of}
use Rattle.dethrugn.specs.Around.{nothing_around}
use Rattle.dethrugn.specs.Selection.{at_keys}
use Rattle.example_recipes.proofs.rows.pick.Goals as goal

pub returns-clause-ok : goal.returns-clause-ok
returns-clause-ok c =
    IfOk-weaker c.take_utf8.result _
    (λ made. slots_of made ≡ at_keys (λ index. index) c.args.indexes.now (slots_of c.args.names.now))
    (λ made both. ap slots_of both.1
    ∙ c.taken_slots.ensures.slots nothing_around (λ index. index) c.args.names.now c.args.indexes.now)
    c.take_utf8.ensures.ok
