use Rattle.std.proofs.Common.{◌∙◌, ap}
use Rattle.arrow_types.specs.Types.{logical_type}
use Rattle.arrow_boolean.specs.Fits.{boolean_type}
use Rattle.arrow_column.specs.Column.{with_type}
use Rattle.compute_aggregate.proofs.OrderedLemmas.{made_of_booleans, made_under}
use Rattle.compute_aggregate.proofs.aggregate.made.booleans_like.Goals as goal

pub returns-clause-ok : goal.returns-clause-ok
returns-clause-ok c =
    let t = logical_type c.in_ok-data_type.data_type in
    made_under t c.args.array.now.data_type c.args.slots.now c.with_data_type.result
    (c.in_ok-data_type.ensures.cases ∙ c.data_type.ensures.value)
    (made_of_booleans boolean_type t c.args.slots.now c.with_data_type.result
    (c.with_data_type.ensures ∙ ap (λ array. with_type array t) c.in_ok-from.ensures.ok))
