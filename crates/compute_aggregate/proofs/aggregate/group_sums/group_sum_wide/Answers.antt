use Rattle.std.proofs.lemmas.Result.{MatchResult-weaker}
use Rattle.arrow_types.specs.Types.{logical_type}
use Rattle.compute_aggregate.proofs.GroupSumLemmas.{wide_sums}
use Rattle.compute_aggregate.proofs.aggregate.group_sums.group_sum_wide.Goals as goal

pub sum_groups-requires-clause-within : goal.sum_groups-requires-clause-within
sum_groups-requires-clause-within g c = rw c.len.ensures c.indices.ensures.within

pub returns-clause-ok : goal.returns-clause-ok
returns-clause-ok g c =
    MatchResult-weaker c.sum_groups.result (rw (← c.indices.ensures.value, ← c.len.ensures) c.sum_groups.ensures.ok)
    (λ made sums. wide_sums (logical_type c.args.data_type) g.T.NativeArithmetics.number c.args.array.now
    c.args.groups.now made sums) (λ _ t. t)

pub returns-clause-err : goal.returns-clause-err
returns-clause-err g c = rw (c.indices.ensures.value, c.len.ensures) at c.sum_groups.ensures.err
