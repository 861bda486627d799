use Rattle.std.proofs.Common.{◌≡◌, ◌++◌}
use Rattle.std.specs.Io.KnownBytes.{Appends}
use Rattle.std.specs.List.{flat_map, range_with_len}
use Rattle.example_csv.specs.Aligned.{column_widths, dashes_line, names_line, row_line}
use Rattle.example_csv.proofs.write_aligned.write_lines.Given as goal

abbrev pub invariant-loop-row : goal.invariant-loop-row
invariant-loop-row g l =
    (l.widths.items ≡ column_widths l.table)
    × Appends (g.W.Write.contents l.fn.to) (g.W.Write.contents l.to)
    ((names_line l.table ++ dashes_line (column_widths l.table)) ++ flat_map (row_line l.table) (range_with_len 0 l.row))
