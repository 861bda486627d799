use Rattle.std.proofs.Common.{◌≡◌, ◌%◌, length, ◌∙◌, sym, ap, arith, is_some}
use Rattle.std.proofs.lemmas.Bool.Decides.{nat_tests}
use Rattle.arrow_syntax.proofs.DigitPairs.{bytes_are_pairs, pairs_tested}
use Rattle.arrow_syntax.proofs.hexadecimal.are_bytes.Goals as goal

pub returns-then-digits-eq0 : goal.returns-then-digits-eq0
returns-then-digits-eq0 c =
    let digits = c.args.digits.now in
    let even : length digits % 2 ≡ 0 = grind (arith, nat_tests, c.if-digits-eq0.true) in
    c.are_all_digits.ensures ∙ sym (ap is_some (bytes_are_pairs digits) ∙ pairs_tested digits even)
