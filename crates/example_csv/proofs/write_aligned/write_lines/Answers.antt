use Rattle.std.proofs.Common.{◌++◌}
use Rattle.csv.proofs.WriteFacts.{appends-more}
use Rattle.example_csv.specs.Aligned.{column_widths, dashes_line, names_line, row_line}
use Rattle.example_csv.proofs.TableLemmas.{rows-more}
use Rattle.example_csv.proofs.write_aligned.write_lines.Goals as goal

pub loop-row-preserved : goal.loop-row-preserved
loop-row-preserved g c =
    let table = c.args.table.now in
    let more = rows-more (names_line table ++ dashes_line (column_widths table)) (row_line table) c.loop-row.row in
    (c.loop-row.invariant.0, rw more at (appends-more _ _ _ _ _ c.loop-row.invariant.1 c.in_ok-write_row.ensures.ok))
