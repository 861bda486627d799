use Rattle.std.proofs.Common.{◌≡◌, Some, map, take}
use Rattle.dethrugn.specs.Column.{slots_of}
use Rattle.example_record_batch.specs.AnyArrays.{slot_count}
use Rattle.example_csv.specs.Summary.{count_number}
use Rattle.example_csv.proofs.summary.row_counts.Given as goal

abbrev pub invariant-loop-field : goal.invariant-loop-field
invariant-loop-field l = slots_of l.counts ≡ map (λ field. Some (count_number (slot_count field.array)))
    (take l.field-index l.field-items)
