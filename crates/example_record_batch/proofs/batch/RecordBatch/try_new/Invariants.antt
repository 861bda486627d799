use Rattle.std.proofs.Common.{take}
use Rattle.example_record_batch.specs.Batches.{HaveRows}
use Rattle.example_record_batch.proofs.batch.RecordBatch.try_new.Given as goal

abbrev pub invariant-loop-field : goal.invariant-loop-field
invariant-loop-field l = HaveRows (take l.field-index l.fn.fields.items) l.len
