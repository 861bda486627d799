use Rattle.example_record_batch.specs.Batches.{named_filtered}
use Rattle.example_record_batch.proofs.BatchLemmas.{made-more}
use Rattle.example_record_batch.proofs.batch.filter_all.Goals as goal

pub loop-field-preserved : goal.loop-field-preserved
loop-field-preserved c = made-more (named_filtered c.args.filter.now) c.args.fields.now c.loop-field.kept.items c.push.new.self.items
    c.loop-field.field-index c.field-item.result c.in_ok-filter_field.field-0 c.loop-field-test.true c.field-item.is
    c.loop-field.invariant c.in_ok-push.ensures.items c.in_ok-filter_field.ensures.ok
