use Rattle.std.proofs.Common.{map, take}
use Rattle.std.specs.List.{AllZip}
use Rattle.example_record_batch.specs.AnyArrays.{slot_count}
use Rattle.example_record_batch.specs.Batches.{HaveRows, named}
use Rattle.example_csv.specs.Grouping.{IsAggregated}
use Rattle.example_csv.proofs.group.grouped_columns.Given as goal

abbrev pub invariant-loop-aggregation : goal.invariant-loop-aggregation
invariant-loop-aggregation l =
    AllZip (IsAggregated l.table l.groups.indices (slot_count l.keys.array)) (take l.aggregation-index l.asked)
    (map named l.columns.items)
    × HaveRows l.columns.items (slot_count l.keys.array)
