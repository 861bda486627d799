use Rattle.std.proofs.Common.{◌∙◌, sym}
use Rattle.std.proofs.lemmas.Simd.{map-map}
use Rattle.example_record_batch.specs.AnyArrays.{cell_at}
use Rattle.example_csv.specs.Text.{cell_text}
use Rattle.example_csv.proofs.TableLemmas.{each_column}
use Rattle.example_csv.proofs.write_csv.fill_row.Goals as goal

pub returns : goal.returns
returns c =
    c.loop-field.invariant.0
    ∙ each_column (λ column. cell_text (cell_at column.array c.args.row)) _ c.args.table.now _
    c.fields-field-items.ensures.columns c.loop-field-test.false
    ∙ sym (map-map cell_text (λ column. cell_at column.array c.args.row) c.args.table.now.columns)
