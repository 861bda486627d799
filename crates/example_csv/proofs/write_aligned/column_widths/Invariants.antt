use Rattle.std.proofs.Common.{◌≡◌, map, take}
use Rattle.example_record_batch.specs.Batches.{named}
use Rattle.example_csv.specs.Aligned.{column_width}
use Rattle.example_csv.proofs.write_aligned.column_widths.Given as goal

abbrev pub invariant-loop-field : goal.invariant-loop-field
invariant-loop-field l = l.widths.items ≡ map (λ field. column_width l.table.rows (named field))
    (take l.field-index l.field-items)
