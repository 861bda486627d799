use Rattle.std.proofs.Common.{◌≡◌, ◌∙◌, ap, map, Some}
use Rattle.std.proofs.lemmas.Result.{IfOk-weaker}
use Rattle.dethrugn.specs.Around.{around_of}
use Rattle.dethrugn.specs.Column.{slots_of}
use Rattle.dethrugn.specs.Pieces.{items_of}
use Rattle.dethrugn.specs.Types.{logical_type}
use Rattle.example_recipes.proofs.parts.receive.Goals as goal

pub returns-clause-ok : goal.returns-clause-ok
returns-clause-ok c =
    let items = items_of c.args.offsets c.args.bytes in
    IfOk-weaker c.try_new.result _ (λ array. slots_of array ≡ map Some items)
    (λ array made. ap slots_of made.1
    ∙ c.slots_of_parts.ensures.bare (logical_type c.default_data_type.result) (around_of c.args.offsets c.args.bytes) items)
    c.try_new.ensures.ok
