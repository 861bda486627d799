use Rattle.std.proofs.Common.{◌≡◌, take}
use Rattle.std.specs.Prelude.{All}
use Rattle.example_record_batch.specs.Schemas.{fields_schema, schema_of}
use Rattle.example_record_batch.specs.Concatenation.{fields_kinds, kinds_of}
use Rattle.example_record_batch.proofs.batch.concat.have_schema.Given as goal

abbrev pub invariant-loop-batch : goal.invariant-loop-batch
invariant-loop-batch l =
    All (λ batch. schema_of batch ≡ fields_schema l.fields) (take l.batch-index l.batches)
    × All (λ batch. kinds_of batch ≡ fields_kinds l.fields) (take l.batch-index l.batches)
