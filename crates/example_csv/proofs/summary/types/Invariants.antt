use Rattle.std.proofs.Common.{◌≡◌, Some, map, take}
use Rattle.dethrugn.specs.Column.{slots_of}
use Rattle.example_csv.specs.Summary.{type_name}
use Rattle.example_csv.proofs.summary.types.Given as goal

abbrev pub invariant-loop-field : goal.invariant-loop-field
invariant-loop-field l = slots_of l.types ≡ map (λ field. Some (type_name field.array))
    (take l.field-index l.field-items)
