use Rattle.std.proofs.Common.{take}
use Rattle.std.specs.Fmt.{HasWritten, IsPlainFormatter}
use Rattle.example_record_batch.specs.Schemas.{fields_schema, schema_text}
use Rattle.example_record_batch.proofs.schema.SchemaDisplay.fmt.Given as goal

abbrev pub invariant-loop-field : goal.invariant-loop-field
invariant-loop-field g l =
    IsPlainFormatter l.initial.f → HasWritten g.W.Write.write_str_gives l.initial.f
    (schema_text (fields_schema (take l.field-index l.field-items))) l.f
