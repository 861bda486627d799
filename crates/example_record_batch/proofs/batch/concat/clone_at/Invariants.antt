use Rattle.std.proofs.Common.{◌≡◌, take}
use Rattle.example_record_batch.specs.Concatenation.{arrays_at}
use Rattle.example_record_batch.proofs.batch.concat.clone_at.Given as goal

abbrev pub invariant-loop-batch : goal.invariant-loop-batch
invariant-loop-batch l = l.arrays.items ≡ arrays_at (take l.batch-index l.batches) l.k
