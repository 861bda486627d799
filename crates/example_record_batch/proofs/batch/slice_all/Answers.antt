use Rattle.std.proofs.Common.{arith}
use Rattle.example_record_batch.proofs.BatchLemmas.{cut-more}
use Rattle.example_record_batch.proofs.batch.slice_all.Goals as goal

pub loop-field-preserved : goal.loop-field-preserved
loop-field-preserved c = cut-more c.args.offset c.args.len _ _ _ c.field-item.result c.slice.new.self
    (omega arith) c.loop-field.invariant c.field-item.is c.slice.ensures
