use Rattle.std.proofs.Common.{◌∙◌, ap}
use Rattle.arrow_types.specs.Types.{default_logical_type, logical_type}
use Rattle.arrow_column.specs.Column.{with_type}
use Rattle.compute_aggregate.proofs.OrderedLemmas.{made_of_numbers}
use Rattle.compute_aggregate.proofs.aggregate.made.numbers_of_type.Goals as goal

pub returns-clause-ok : goal.returns-clause-ok
returns-clause-ok g c =
    let t = logical_type c.args.data_type in
    made_of_numbers g.T.NativeType.zero (default_logical_type g.T.NativeType.PRIMITIVE) t c.args.slots.now c.to.result
    (c.to.ensures ∙ ap (λ array. with_type array t) c.in_ok-from.ensures.ok)
