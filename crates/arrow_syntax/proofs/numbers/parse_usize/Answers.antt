use Rattle.std.proofs.Common.{◌+◌, sym, ◌∙◌, arith, length, ◌<◌, drop, get_or}
use Rattle.std.proofs.lemmas.List.{at_drop_all, at_drop_more}
use Rattle.std.proofs.lemmas.Bool.Decides.{nat_tests}
use Rattle.arrow_syntax.proofs.NumberLemmas.{parse_usize_is, parse_usize_empty, number_after, number_after_stops}
use Rattle.arrow_syntax.proofs.numbers.parse_usize.Goals as goal

pub returns-then-is_empty : goal.returns-then-is_empty
returns-then-is_empty c = sym (parse_usize_empty c.args.word.now (grind (arith, nat_tests)))

pub returns-in_err-number : goal.returns-in_err-number
returns-in_err-number c =
    let word = c.args.word.now in
    let all = parse_usize_is word (omega arith) in
    let here = at_drop_more (number_after c.loop-byte.number) word c.loop-byte.byte-index 0 c.loop-byte-test.true in
    let stops = number_after_stops c.loop-byte.number (get_or word c.loop-byte.byte-index 0)
    (drop (c.loop-byte.byte-index + 1) word) (sym c.with_digit.ensures ∙ c.in_err-number.was) in
    c.from_residual.ensures ∙ sym (all ∙ c.loop-byte.invariant ∙ here ∙ stops)

pub returns : goal.returns
returns c =
    let word = c.args.word.now in
    let long : 0 < length word = grind (arith, nat_tests) in
    sym (parse_usize_is word long ∙ c.loop-byte.invariant
    ∙ at_drop_all (number_after c.loop-byte.number) word c.loop-byte.byte-index (omega arith))
