use Rattle.std.proofs.Common.{◌∙◌, sym}
use Rattle.example_record_batch.specs.Batches.{named}
use Rattle.example_csv.proofs.TableLemmas.{column_width-more}
use Rattle.example_csv.proofs.write_aligned.column_width.Goals as goal

pub loop-row-preserved : goal.loop-row-preserved
loop-row-preserved c =
    let more = column_width-more c.loop-row.row (named c.args.field.now) in
    c.max-width.ensures ∙ rw (c.loop-row.invariant, c.in_ok-shown.ensures.width, c.in_ok-text.ensures) (sym more)
