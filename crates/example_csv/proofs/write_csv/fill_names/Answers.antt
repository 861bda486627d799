use Rattle.std.proofs.Common.{◌∙◌}
use Rattle.example_csv.proofs.TableLemmas.{each_column}
use Rattle.example_csv.proofs.write_csv.fill_names.Goals as goal

pub returns : goal.returns
returns c = c.loop-field.invariant.0 ∙ each_column (λ column. column.name) _ c.args.table.now _
    c.fields-field-items.ensures.columns c.loop-field-test.false
