use Rattle.std.proofs.Common.{◌≡◌, ◌∙◌, Some, arith, slice_index, sym}
use Rattle.std.proofs.lemmas.Bool.Decides.{nat_tests}
use Rattle.arrow_syntax.specs.Words.{with_digit}
use Rattle.arrow_syntax.proofs.ShortNumbers.{one_digit_first, one_digit_alone, two_digits, two_digits_first, two_digits_alone}
use Rattle.arrow_syntax.proofs.fields.short_number.Goals as goal

pub returns-in_ok-with_digit-in-32 : goal.returns-in_ok-with_digit-in-32
returns-in_ok-with_digit-in-32 c =
    let text = c.args.text.now in
    let n = c.in_ok-with_digit-in-32.field-0 in
    let digit : with_digit 0 (slice_index text 0) ≡ Some n = sym c.with_digit-in-32.ensures ∙ c.in_ok-with_digit-in-32.was in
    let space : slice_index text 1 ≡ 32 = grind (arith, nat_tests) in
    one_digit_first text n (grind (arith, nat_tests)) space digit

pub returns-in_ok-with_digit-in-len1 : goal.returns-in_ok-with_digit-in-len1
returns-in_ok-with_digit-in-len1 c =
    one_digit_alone c.args.text.now c.in_ok-with_digit-in-len1.field-0 (omega arith) (sym c.with_digit.ensures
    ∙ c.in_ok-with_digit-in-len1.was)

pub returns-in_ok-two_digits-in-32-2 : goal.returns-in_ok-two_digits-in-32-2
returns-in_ok-two_digits-in-32-2 c =
    let text = c.args.text.now in
    let n = c.in_ok-two_digits-in-32-2.field-0 in
    let digits : two_digits (slice_index text 0) (slice_index text 1) ≡ Some n = sym c.two_digits-in-32-2.ensures
    ∙ c.in_ok-two_digits-in-32-2.was in
    let space : slice_index text 2 ≡ 32 = grind (arith, nat_tests) in
    two_digits_first text n c.in-32-2.len_at_least space digits

pub returns-in_ok-two_digits-in-len2 : goal.returns-in_ok-two_digits-in-len2
returns-in_ok-two_digits-in-len2 c =
    two_digits_alone c.args.text.now c.in_ok-two_digits-in-len2.field-0 (omega arith) (sym c.two_digits.ensures
    ∙ c.in_ok-two_digits-in-len2.was)
