use Rattle.std.proofs.Common.{◌∙◌}
use Rattle.example_csv.specs.Aligned.{column_width}
use Rattle.example_csv.proofs.TableLemmas.{each_column}
use Rattle.example_csv.proofs.write_aligned.column_widths.Goals as goal

pub returns : goal.returns
returns c = c.loop-field.invariant ∙ each_column (column_width c.args.table.now.rows) _ c.args.table.now _
    c.fields-field-items.ensures.columns c.loop-field-test.false
