use Rattle.std.proofs.Common.{◌≡◌, [], map, take, string_bytes}
use Rattle.csv.specs.Records.{fields_of, partial_of}
use Rattle.example_csv.proofs.write_csv.fill_names.Given as goal

abbrev pub invariant-loop-field : goal.invariant-loop-field
invariant-loop-field l =
    (fields_of l.out ≡ map (λ field. string_bytes field.name) (take l.field-index l.field-items))
    × (partial_of l.out ≡ [])
