use Rattle.std.proofs.Common.{◌∙◌, sym}
use Rattle.example_record_batch.specs.Batches.{named}
use Rattle.example_record_batch.specs.AnyArrays.{cell_at}
use Rattle.example_csv.specs.Text.{cell_text}
use Rattle.example_csv.specs.Aligned.{cell_of}
use Rattle.example_csv.proofs.TableLemmas.{cells-more, each_column, line_of, width_at}
use Rattle.example_csv.proofs.write_aligned.write_row.Goals as goal

pub loop-i-preserved : goal.loop-i-preserved
loop-i-preserved g c =
    let fields = c.fields-field-items.result.now in
    let field = c.field-item.result in
    let width =
    width_at fields c.args.table.now c.loop-i.i field c.args.widths.now c.fields-field-items.ensures.columns
    c.requires.widths c.loop-i-test.true c.field-item.is in
    let more =
    cells-more
    (λ field. cell_of c.args.table.now.rows (λ column. cell_text (cell_at column.array c.args.row)) (named field))
    fields c.loop-i.i field c.loop-i-test.true c.field-item.is in
    rw (c.loop-i.invariant, c.is_number.ensures, width, c.in_ok-text.ensures) at c.in_ok-push_cell.ensures ∙ sym more

pub returns-clause-ok : goal.returns-clause-ok
returns-clause-ok g c =
    let cells =
    each_column (cell_of c.args.table.now.rows (λ column. cell_text (cell_at column.array c.args.row))) _
    c.args.table.now _ c.fields-field-items.ensures.columns c.loop-i-test.false in
    rw (c.loop-i.invariant ∙ line_of cells) at c.write_line.ensures.ok
