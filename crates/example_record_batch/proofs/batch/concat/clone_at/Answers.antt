use Rattle.std.proofs.Common.{ap, length, subst, sym, ◌<◌, ◌∙◌}
use Rattle.example_record_batch.specs.declared.batch.Field.{Field}
use Rattle.example_record_batch.specs.Batches.{Batch}
use Rattle.example_record_batch.proofs.ConcatLemmas.{arrays-more, field-at}
use Rattle.example_record_batch.proofs.batch.concat.clone_at.Goals as goal

pub loop-batch-preserved : goal.loop-batch-preserved
loop-batch-preserved c =
    let batch = c.batch-item.result in
    let wide = subst (λ (batch : Batch). c.args.k < length batch.columns) (sym c.batch-item.is)
    (c.requires c.loop-batch.batch-index batch c.loop-batch-test.true) in
    let at = field-at batch c.fields.result.now batch.rows c.args.k c.index-fields-k.result c.fields.ensures.columns
    wide c.index-fields-k.is in
    arrays-more c.args.batches.now c.args.k c.loop-batch.batch-index batch c.loop-batch.arrays.items
    c.push.new.self.items c.index-fields-k.result.array c.in_ok-clone.field-0 c.loop-batch-test.true c.batch-item.is at
    c.loop-batch.invariant c.in_ok-push.ensures.items
    (c.in_ok-clone.ensures.ok ∙ sym (ap (λ (field : Field). field.array) c.index-fields-k.is))
