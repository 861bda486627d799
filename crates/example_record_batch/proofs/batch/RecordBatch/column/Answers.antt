use Rattle.std.proofs.Common.{ap, sym}
use Rattle.std.specs.Prelude.{option_map, string_bytes}
use Rattle.std.specs.Str.{bytes_eq}
use Rattle.example_record_batch.specs.declared.batch.Field.{Field}
use Rattle.example_record_batch.proofs.BatchLemmas.{column-found, found-rows}
use Rattle.example_record_batch.proofs.batch.RecordBatch.column.Goals as goal

pub returns-in-Some-clause-value : goal.returns-in-Some-clause-value
returns-in-Some-clause-value c =
    rw (
      ← c.self.view_is,
      column-found c.self.inside.fields.items c.self.inside.len c.args.name.now,
      ←
          c.as_slice.ensures.value,
    )
    (ap (option_map (λ (field : Field). field.array)) c.in-Some.ensures)

pub returns-in-Some-clause-rows : goal.returns-in-Some-clause-rows
returns-in-Some-clause-rows c = rw (← c.self.view_is)
    (found-rows c.self.inside.fields.items c.self.inside.len
    (λ field. bytes_eq (string_bytes field.name) c.args.name.now) c.in-Some.field.now c.self.invariant
    (rw (← c.as_slice.ensures.value) (sym c.in-Some.ensures)))

pub returns-in-None-clause-value : goal.returns-in-None-clause-value
returns-in-None-clause-value c =
    rw (
      ← c.self.view_is,
      column-found c.self.inside.fields.items c.self.inside.len c.args.name.now,
      ←
          c.as_slice.ensures.value,
    )
    (ap (option_map (λ (field : Field). field.array)) c.in-None.ensures)
