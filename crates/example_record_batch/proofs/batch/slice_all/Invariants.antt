use Rattle.std.proofs.Common.{◌≡◌, ◌++◌, map, take, drop}
use Rattle.example_record_batch.proofs.BatchLemmas.{field_cut}
use Rattle.example_record_batch.proofs.batch.slice_all.Given as goal

abbrev pub invariant-loop-field : goal.invariant-loop-field
invariant-loop-field l = l.field-items ≡ map (field_cut l.offset l.len)
    (take l.field-index l.initial.field-items) ++ drop l.field-index l.initial.field-items
