use Rattle.std.proofs.Common.{◌≡◌, ◌∙◌, length, ap, subst, true, false, arith}
use Rattle.std.specs.Prelude.{IsTrue}
use Rattle.std.specs.List.{list_all}
use Rattle.arrow_syntax.specs.Lines.{is_bad}
use Rattle.arrow_syntax.proofs.CallerLemmas.{after_shorter, length_after}
use Rattle.arrow_syntax.specs.Words.{is_printable}
use Rattle.arrow_session.proofs.Parsing.{all_printable_cut, lines_after, lines_cut}
use Rattle.arrow_session.proofs.Runs.{IsReadTo, read_none, read_good, read_bad, read_all}
use Rattle.arrow_session.proofs.session.first_bad_line.Goals as goal

pub loop-rest-init : goal.loop-rest-init
loop-rest-init c = record
    { read = read_none c.args.input.now; known = c.all_printable-printable.ensures; room = omega arith }

pub is_line-requires : goal.is_line-requires
is_line-requires c =
    let line = c.split_line.result.0.now in
    let after = c.split_line.result.1 in
    let here = ap lines_after c.in-Some.is ∙ lines_cut c.in-Some.lines.now line after c.split_line.ensures.pieces in
    λ met. (all_printable_cut line (lines_after after)
    (subst (λ rest. IsTrue (list_all is_printable rest)) here (c.loop-rest.invariant.known met))).0

pub returns-then-not-is_line : goal.returns-then-not-is_line
returns-then-not-is_line c =
    let input = c.args.input.now in
    let n = c.loop-rest.number in
    let line = c.split_line.result.0.now in
    let after = c.split_line.result.1 in
    let here = ap lines_after c.in-Some.is ∙ lines_cut c.in-Some.lines.now line after c.split_line.ensures.pieces in
    let bad : is_bad line ≡ true = grind (arith, c.is_line.ensures, c.if-not-is_line.true) in
    read_bad input line (lines_after after) n bad
    (subst (λ rest. IsReadTo input n rest) here c.loop-rest.invariant.read)

pub loop-rest-preserved : goal.loop-rest-preserved
loop-rest-preserved c =
    let input = c.args.input.now in
    let n = c.loop-rest.number in
    let line = c.split_line.result.0.now in
    let after = c.split_line.result.1 in
    let here = ap lines_after c.in-Some.is ∙ lines_cut c.in-Some.lines.now line after c.split_line.ensures.pieces in
    let good : is_bad line ≡ false = grind (arith, c.is_line.ensures, c.if-not-is_line.false) in
    record {
      read = read_good input line (lines_after after) n good
          (subst (λ rest. IsReadTo input n rest) here c.loop-rest.invariant.read);
      known = λ met. (all_printable_cut line (lines_after after)
          (subst (λ rest. IsTrue (list_all is_printable rest)) here (c.loop-rest.invariant.known met))).1;
      room = omega (
        arith,
        c.loop-rest.invariant.room,
        after_shorter after (length c.in-Some.lines.now)
            c.split_line.ensures.shorter,
        ap length_after c.in-Some.is,
      );
    }

pub returns : goal.returns
returns c =
    let input = c.args.input.now in
    let n = c.loop-rest.number in
    read_all input n (subst (λ rest. IsReadTo input n rest) (ap lines_after c.in_default.is) c.loop-rest.invariant.read)
