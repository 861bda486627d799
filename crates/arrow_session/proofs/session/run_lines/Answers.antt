use Rattle.std.proofs.Common.{◌∙◌, ap, subst, string_bytes}
use Rattle.arrow_session.proofs.Parsing.{lines_after, lines_cut}
use Rattle.arrow_session.proofs.Runs.{IsRunTo, run_none, run_next, run_good, run_to_end}
use Rattle.arrow_session.proofs.session.run_lines.Goals as goal

pub loop-rest-init : goal.loop-rest-init
loop-rest-init c =
    run_none c.args.input.now c.args.interpreter.now.tables (string_bytes c.args.interpreter.now.text)
    c.requires.tables c.requires.text

pub run_line-requires : goal.run_line-requires
run_line-requires c =
    let input = c.args.input.now in
    let line = c.split_line.result.0.now in
    let after = c.split_line.result.1 in
    let table = c.loop-rest.interpreter.tables in
    let text = string_bytes c.loop-rest.interpreter.text in
    let here = ap lines_after c.in-Some.is ∙ lines_cut c.in-Some.lines.now line after c.split_line.ensures.pieces in
    run_next input line (lines_after after) table text c.requires.commands
    (subst (λ rest. IsRunTo input rest table text) here c.loop-rest.invariant)

pub loop-rest-preserved : goal.loop-rest-preserved
loop-rest-preserved c =
    let input = c.args.input.now in
    let line = c.split_line.result.0.now in
    let after = c.split_line.result.1 in
    let table = c.loop-rest.interpreter.tables in
    let text = string_bytes c.loop-rest.interpreter.text in
    let here = ap lines_after c.in-Some.is ∙ lines_cut c.in-Some.lines.now line after c.split_line.ensures.pieces in
    let run = subst (λ rest. IsRunTo input rest table text) here c.loop-rest.invariant in
    run_good input line (lines_after after) table text c.run_line.new.interpreter.tables
    (string_bytes c.run_line.new.interpreter.text)
    (run_next input line (lines_after after) table text c.requires.commands run) c.in_ok-run_line.ensures run

pub returns : goal.returns
returns c =
    let input = c.args.input.now in
    let table = c.loop-rest.interpreter.tables in
    let text = string_bytes c.loop-rest.interpreter.text in
    run_to_end input table text
    (subst (λ rest. IsRunTo input rest table text) (ap lines_after c.in_default.is) c.loop-rest.invariant)
