use Rattle.std.proofs.Common.{sym, ◌∙◌, arith}
use Rattle.arrow_syntax.proofs.DigitTexts.{no_digits}
use Rattle.arrow_syntax.proofs.hexadecimal.is_text.Goals as goal

pub returns : goal.returns
returns c = sym (c.loop-rest.invariant
    ∙ no_digits c.loop-rest.rest.now (grind (arith, c.loop-rest-test.false, c.is_empty.ensures)))
