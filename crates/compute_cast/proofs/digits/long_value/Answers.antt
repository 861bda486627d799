use Rattle.std.proofs.Common.{◌∙◌, ◌*◌, ◌+◌, ◌^◌, arith, get_or, refl, sym}
use Rattle.compute_cast.proofs.DigitLemmas.{at-least, overflows, reads-long}
use Rattle.compute_cast.proofs.digits.long_value.Goals as goal

pub returns-in_err-tens : goal.returns-in_err-tens
returns-in_err-tens c =
    let digits = c.args.digits.now in
    let byte = get_or digits c.loop-i.i 0 in
    let large = at-least (c.loop-i.value * 10) (2 ^ 128) c.in_err-tens.ensures in
    c.from_residual.ensures
    ∙ overflows digits c.loop-i.i c.loop-i.value byte c.loop-i.invariant.read c.loop-i-test.true refl
    (sym c.if-not-is_ascii_digit.ensures.value) c.if-not-is_ascii_digit.ensures.bound (omega (arith, large))

pub returns-in_err-value : goal.returns-in_err-value
returns-in_err-value c =
    let digits = c.args.digits.now in
    let byte = get_or digits c.loop-i.i 0 in
    let large = at-least (c.in_ok-tens.tens + c.from.result) (2 ^ 128) c.in_err-value.ensures in
    c.from_residual-in_err-value.ensures
    ∙ overflows digits c.loop-i.i c.loop-i.value byte c.loop-i.invariant.read c.loop-i-test.true refl
    (sym c.if-not-is_ascii_digit.ensures.value) c.if-not-is_ascii_digit.ensures.bound
    (omega (arith, large, c.from.ensures, c.in_ok-tens.ensures))

pub returns : goal.returns
returns c =
    reads-long c.args.digits.now c.loop-i.i c.loop-i.value c.loop-i.invariant.read c.loop-i-test.false
    c.loop-i.invariant.small
