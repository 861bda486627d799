use Rattle.std.proofs.Common.{◌≡◌, Some, map, string_bytes, take}
use Rattle.dethrugn.specs.Column.{slots_of}
use Rattle.example_csv.proofs.summary.names.Given as goal

abbrev pub invariant-loop-field : goal.invariant-loop-field
invariant-loop-field l = slots_of l.names ≡ map (λ field. Some (string_bytes field.name))
    (take l.field-index l.field-items)
