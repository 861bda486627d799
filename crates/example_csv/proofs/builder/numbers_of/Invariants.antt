use Rattle.std.proofs.Common.{◌≡◌, Some, map, take}
use Rattle.dethrugn.specs.Column.{slots_of}
use Rattle.example_csv.specs.Fields.{parsed_number, slot_as}
use Rattle.example_csv.proofs.builder.numbers_of.Given as goal

abbrev pub invariant-loop-i : goal.invariant-loop-i
invariant-loop-i l = map Some (slots_of l.numbers) ≡ map (slot_as parsed_number) (take l.i (slots_of l.column))
