use Rattle.std.proofs.Common.{◌≡◌, take}
use Rattle.std.specs.List.{list_all}
use Rattle.arrow_syntax.specs.Lines.{is_of_lines}
use Rattle.arrow_syntax.proofs.lines.all_printable.Given as goal

abbrev pub invariant-loop-b : goal.invariant-loop-b
invariant-loop-b l = l.all ≡ list_all is_of_lines (take l.b-index l.input)
