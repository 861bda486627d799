use Rattle.std.proofs.Common.{◌∙◌, sym, ap, arith}
use Rattle.std.specs.List.{list_all}
use Rattle.std.proofs.lemmas.List.{take_all}
use Rattle.arrow_syntax.specs.Lines.{is_of_lines}
use Rattle.arrow_syntax.proofs.Printable.{lines_printable}
use Rattle.arrow_syntax.proofs.lines.all_printable.Goals as goal

pub returns : goal.returns
returns c met =
    let input = c.args.input.now in
    let whole = ap (list_all is_of_lines) (sym (take_all c.loop-b.b-index input (omega arith))) in
    lines_printable input (whole ∙ sym c.loop-b.invariant ∙ met)
