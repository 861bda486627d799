use Rattle.std.proofs.Common.{◌≡◌, map, take}
use Rattle.example_record_batch.specs.Batches.{named, named_filtered}
use Rattle.example_record_batch.proofs.batch.filter_all.Given as goal

abbrev pub invariant-loop-field : goal.invariant-loop-field
invariant-loop-field l =
    map named l.kept.items ≡ map (named_filtered l.filter) (map named (take l.field-index l.fields))
