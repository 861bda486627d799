use Rattle.example_record_batch.specs.Taking.{named_taken}
use Rattle.example_record_batch.proofs.BatchLemmas.{made-more}
use Rattle.example_record_batch.proofs.TakeLemmas.{picks-field}
use Rattle.example_record_batch.proofs.batch.take_all.Goals as goal

pub take_field-requires : goal.take_field-requires
take_field-requires c = picks-field c.args.fields.now c.loop-field.field-index c.args.len c.field-item.result
    c.args.indexes.now c.requires.rows c.loop-field-test.true c.field-item.is c.requires.once

pub loop-field-preserved : goal.loop-field-preserved
loop-field-preserved c = made-more (named_taken c.args.indexes.now) c.args.fields.now c.loop-field.made.items c.push.new.self.items
    c.loop-field.field-index c.field-item.result c.in_ok-take_field.field-0 c.loop-field-test.true c.field-item.is
    c.loop-field.invariant c.in_ok-push.ensures.items c.in_ok-take_field.ensures.ok
