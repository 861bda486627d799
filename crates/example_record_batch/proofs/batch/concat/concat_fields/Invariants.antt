use Rattle.std.proofs.Common.{take}
use Rattle.example_record_batch.specs.Concatenation.{AreConcats}
use Rattle.example_record_batch.proofs.batch.concat.concat_fields.Given as goal

abbrev pub invariant-loop-k : goal.invariant-loop-k
invariant-loop-k l = AreConcats l.batches (take l.k l.fields) l.made.items
