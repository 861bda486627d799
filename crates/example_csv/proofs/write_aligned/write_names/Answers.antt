use Rattle.std.proofs.Common.{◌∙◌, sym}
use Rattle.example_record_batch.specs.Batches.{named}
use Rattle.example_csv.specs.Aligned.{cell_of}
use Rattle.example_csv.proofs.TableLemmas.{cells-more, each_column, line_of, width_at}
use Rattle.example_csv.proofs.write_aligned.write_names.Goals as goal

pub loop-i-preserved : goal.loop-i-preserved
loop-i-preserved g c =
    let fields = c.fields-field-items.result.now in
    let field = c.field-item.result in
    let width =
    width_at fields c.args.table.now c.loop-i.i field c.args.widths.now c.fields-field-items.ensures.columns
    c.requires c.loop-i-test.true c.field-item.is in
    let more =
    cells-more (λ field. cell_of c.args.table.now.rows (λ column. column.name) (named field)) fields c.loop-i.i
    field c.loop-i-test.true c.field-item.is in
    rw (c.loop-i.invariant, c.is_number.ensures, width, c.as_str.ensures.value) at c.in_ok-push_cell.ensures ∙ sym more

pub returns-clause-ok : goal.returns-clause-ok
returns-clause-ok g c =
    let cells =
    each_column (cell_of c.args.table.now.rows (λ column. column.name)) _ c.args.table.now _
    c.fields-field-items.ensures.columns c.loop-i-test.false in
    rw (c.loop-i.invariant ∙ line_of cells) at c.write_line.ensures.ok
