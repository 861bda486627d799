use Rattle.std.proofs.Common.{length, subst}
use Rattle.std.specs.Prelude.{IsSome}
use Rattle.example_record_batch.specs.Grouping.{AggregateFails, overflowing_group}
use Rattle.example_record_batch.proofs.CallerLemmas.{overflow-found}
use Rattle.example_csv.proofs.group.aggregate_column.Goals as goal

pub sum_overflow-requires-clause-some : goal.sum_overflow-requires-clause-some
sum_overflow-requires-clause-some c =
    let aggregate = c.args.aggregation.now.aggregate in
    let array = c.in_ok-array.array.now in
    let numbers = c.args.groups.now.indices in
    let count = length c.args.groups.now.first in
    subst (λ n. IsSome (overflowing_group array numbers n)) c.requires.keys
    (overflow-found aggregate array numbers count
    (subst (AggregateFails aggregate array numbers count) c.in-Err-Overflow.field-0-is
    c.in-Err-Overflow.ensures.err)).1
