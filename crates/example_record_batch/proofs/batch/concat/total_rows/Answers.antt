use Rattle.std.proofs.Common.{ap, arith, subst}
use Rattle.std.proofs.lemmas.List.Elements.{All-more}
use Rattle.std.proofs.lemmas.List.Sums.{sum_by_more}
use Rattle.example_record_batch.specs.Batches.{Batch, IsBatch}
use Rattle.example_record_batch.proofs.batch.concat.total_rows.Goals as goal

pub loop-batch-preserved : goal.loop-batch-preserved
loop-batch-preserved c =
    let batch = c.batch-item.result in
    let more = sum_by_more (λ (batch : Batch). batch.rows) c.args.batches.now c.loop-batch.batch-index batch
    c.loop-batch-test.true in
    let item = ap (λ (batch : Batch). batch.rows) c.batch-item.is in (
      omega (arith, more, item, c.in-Some.ensures, c.loop-batch.invariant.0),
      All-more IsBatch c.args.batches.now c.loop-batch.batch-index batch c.loop-batch-test.true
          c.loop-batch.invariant.1 (subst IsBatch c.batch-item.is c.num_rows.ensures.each),
    )
