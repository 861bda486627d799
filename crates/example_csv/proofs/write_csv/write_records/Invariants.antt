use Rattle.std.proofs.Common.{◌≡◌, ◌∷◌, false, map}
use Rattle.std.specs.Io.KnownBytes.{Appends}
use Rattle.std.specs.List.{flat_map, range_with_len}
use Rattle.csv.specs.Writing.{default_writer, fields_written, has_written, row_text, text_written, writer_setup}
use Rattle.example_csv.specs.Text.{names_of, record_at}
use Rattle.example_csv.proofs.write_csv.write_records.Given as goal

abbrev pub invariant-loop-row : goal.invariant-loop-row
invariant-loop-row g l =
    (writer_setup l.writer ≡ default_writer) × (fields_written l.writer ≡ 0) × (has_written l.writer ≡ false)
    × Appends (text_written g.W.Write.contents l.fn.writer) (text_written g.W.Write.contents l.writer)
    (flat_map (row_text default_writer) (names_of l.table ∷ map (record_at l.table) (range_with_len 0 l.row)))
