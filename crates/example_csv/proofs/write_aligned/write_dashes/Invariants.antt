use Rattle.std.proofs.Common.{◌≡◌, ◌++◌, map, string_bytes, take}
use Rattle.std.specs.Prelude.{codes, replicate}
use Rattle.std.specs.List.{flat_map}
use Rattle.example_csv.proofs.write_aligned.write_dashes.Given as goal

abbrev pub invariant-loop-width : goal.invariant-loop-width
invariant-loop-width g l =
    string_bytes l.line.text
    ≡ flat_map (λ cell. cell ++ codes "  ") (map (λ width. replicate width 45) (take l.width-index l.widths))
