use Rattle.example_record_batch.proofs.BatchLemmas.{named-rows}
use Rattle.example_record_batch.proofs.batch.RecordBatch.num_rows.Goals as goal

pub returns-clause-each : goal.returns-clause-each
returns-clause-each c = rw (← c.self.view_is)
    (named-rows c.self.inside.fields.items c.self.inside.len c.self.invariant)
