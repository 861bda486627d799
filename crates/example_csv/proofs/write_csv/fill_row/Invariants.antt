use Rattle.std.proofs.Common.{◌≡◌, [], map, take}
use Rattle.csv.specs.Records.{fields_of, partial_of}
use Rattle.example_record_batch.specs.AnyArrays.{cell_at}
use Rattle.example_csv.specs.Text.{cell_text}
use Rattle.example_csv.proofs.write_csv.fill_row.Given as goal

abbrev pub invariant-loop-field : goal.invariant-loop-field
invariant-loop-field l =
    (fields_of l.out ≡ map (λ field. cell_text (cell_at field.array l.row)) (take l.field-index l.field-items))
    × (partial_of l.out ≡ [])
