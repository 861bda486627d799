use Rattle.example_csv.proofs.SummaryLemmas.{length-columns}
use Rattle.example_csv.proofs.summary.column_count.Goals as goal

pub returns : goal.returns
returns c = cc (length-columns _ c.args.table.now c.fields-fields.ensures.columns)
