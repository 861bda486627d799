use Rattle.std.proofs.Common.{◌∙◌, subst}
use Rattle.std.specs.Prelude.{IfOk, length}
use Rattle.compute_aggregate.specs.GroupSums.{SumsGroupsAs}
use Rattle.compute_aggregate.proofs.aggregate.group_sums.group_sum_primitive.Goals as goal

pub sum_groups-requires-clause-within : goal.sum_groups-requires-clause-within
sum_groups-requires-clause-within g c = rw c.len.ensures c.indices.ensures.within

pub returns-clause-ok : goal.returns-clause-ok
returns-clause-ok g c =
    let number = g.T.NativeArithmetics.number in
    subst (λ t. IfOk c.sum_groups.result (SumsGroupsAs t number number c.args.array.now c.args.groups.now.indices
    (length c.args.groups.now.first))) (c.in_ok-data_type.ensures.cases ∙ c.data_type.ensures.value)
    (rw (← c.indices.ensures.value, ← c.len.ensures) c.sum_groups.ensures.ok)

pub returns-clause-err : goal.returns-clause-err
returns-clause-err g c = rw (c.indices.ensures.value, c.len.ensures) at c.sum_groups.ensures.err
