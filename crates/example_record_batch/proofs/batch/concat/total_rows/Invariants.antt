use Rattle.std.proofs.Common.{◌≡◌, take}
use Rattle.std.specs.Prelude.{All, sum_by}
use Rattle.example_record_batch.specs.Batches.{IsBatch}
use Rattle.example_record_batch.proofs.batch.concat.total_rows.Given as goal

abbrev pub invariant-loop-batch : goal.invariant-loop-batch
invariant-loop-batch l =
    (l.rows ≡ sum_by (λ batch. batch.rows) (take l.batch-index l.batches))
    × All IsBatch (take l.batch-index l.batches)
