use Rattle.std.proofs.Common.{arith}
use Rattle.compute_cast.proofs.NumberLemmas.{negative-none, negative-some, negative-zero}
use Rattle.compute_cast.proofs.number.signed_value.Goals as goal

pub returns-then-value-eq0 : goal.returns-then-value-eq0
returns-then-value-eq0 c =
    negative-zero c.args.is_negative c.args.value c.if-not-is_negative.false c.if-value-eq0.true

pub returns-in-Some : goal.returns-in-Some
returns-in-Some c =
    negative-some c.args.is_negative c.args.value c.in-Some.below c.if-not-is_negative.false (omega (arith, c.if-value-eq0.false))
    c.in-Some.ensures

pub returns-in-None : goal.returns-in-None
returns-in-None c =
    negative-none c.args.is_negative c.args.value c.if-not-is_negative.false (omega (arith, c.if-value-eq0.false))
    c.in-None.ensures
