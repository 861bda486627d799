use Rattle.std.proofs.Common.{◌≡◌, ◌∙◌, ap}
use Rattle.std.proofs.lemmas.Result.{IfOk-weaker}
use Rattle.dethrugn.specs.Column.{slots_of}
use Rattle.dethrugn.specs.Around.{nothing_around}
use Rattle.dethrugn.specs.Selection.{asked, filtered, where_set}
use Rattle.example_recipes.proofs.rows.keep_where.Goals as goal

pub returns-clause-ok : goal.returns-clause-ok
returns-clause-ok c =
    IfOk-weaker c.filter_utf8.result (λ kept. kept ≡ filtered nothing_around c.args.names.now c.args.filter.now)
    (λ kept. slots_of kept ≡ where_set (asked c.args.filter.now) (slots_of c.args.names.now))
    (λ kept same. ap slots_of same
    ∙ c.filtered_slots.ensures.slots nothing_around c.args.names.now c.args.filter.now)
    c.filter_utf8.ensures.ok
