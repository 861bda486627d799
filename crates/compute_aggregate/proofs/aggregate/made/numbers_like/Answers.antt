use Rattle.std.proofs.Common.{◌∙◌, subst}
use Rattle.std.specs.Prelude.{IfOk}
use Rattle.compute_aggregate.specs.Groups.{MakesSlots}
use Rattle.compute_aggregate.proofs.aggregate.made.numbers_like.Goals as goal

pub returns-clause-ok : goal.returns-clause-ok
returns-clause-ok g c =
    subst (λ t. IfOk c.numbers_of_type.result (MakesSlots t c.args.slots.now)) (c.in_ok-clone.ensures.cases
    ∙ c.data_type.ensures.value)
    c.numbers_of_type.ensures.ok
