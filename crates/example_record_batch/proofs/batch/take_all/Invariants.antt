use Rattle.std.proofs.Common.{◌≡◌, map, take}
use Rattle.example_record_batch.specs.Batches.{named}
use Rattle.example_record_batch.specs.Taking.{named_taken}
use Rattle.example_record_batch.proofs.batch.take_all.Given as goal

abbrev pub invariant-loop-field : goal.invariant-loop-field
invariant-loop-field l =
    map named l.made.items ≡ map (named_taken l.indexes) (map named (take l.field-index l.fields))
