use Rattle.std.proofs.Common.{◌≡◌, take}
use Rattle.example_record_batch.specs.Schemas.{fields_schema}
use Rattle.example_record_batch.specs.Concatenation.{fields_kinds}
use Rattle.example_record_batch.proofs.batch.concat.is_same_schema.Given as goal

abbrev pub invariant-loop-i : goal.invariant-loop-i
invariant-loop-i l =
    (fields_schema (take l.i l.fields) ≡ fields_schema (take l.i l.others))
    × (fields_kinds (take l.i l.fields) ≡ fields_kinds (take l.i l.others))
