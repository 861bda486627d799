use Rattle.std.proofs.Common.{◌≡◌, ◌++◌, map, string_bytes, take}
use Rattle.std.specs.Prelude.{codes}
use Rattle.std.specs.List.{flat_map}
use Rattle.example_record_batch.specs.AnyArrays.{cell_at}
use Rattle.example_record_batch.specs.Batches.{named}
use Rattle.example_csv.specs.Text.{cell_text}
use Rattle.example_csv.specs.Aligned.{cell_of}
use Rattle.example_csv.proofs.write_aligned.write_row.Given as goal

abbrev pub invariant-loop-i : goal.invariant-loop-i
invariant-loop-i g l =
    string_bytes l.line.text
    ≡ flat_map (λ cell. cell ++ codes "  ")
    (map (λ field. cell_of l.table.rows (λ column. cell_text (cell_at column.array l.row)) (named field)) (take l.i l.field-items))
