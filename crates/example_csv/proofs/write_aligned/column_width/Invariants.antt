use Rattle.std.proofs.Common.{◌≡◌}
use Rattle.example_record_batch.specs.Batches.{named}
use Rattle.example_csv.specs.Aligned.{column_width}
use Rattle.example_csv.proofs.write_aligned.column_width.Given as goal

abbrev pub invariant-loop-row : goal.invariant-loop-row
invariant-loop-row l = l.width ≡ column_width l.row (named l.field)
