use Rattle.std.proofs.Common.{◌==◌, arith}
use Rattle.std.proofs.lemmas.Bool.Decides.{nat_tests}
use Rattle.arrow_syntax.proofs.Places.{found_at, found_nowhere}
use Rattle.arrow_syntax.proofs.words.position_of.Goals as goal

pub returns-then-text-place : goal.returns-then-text-place
returns-then-text-place c = found_at (λ b. b == c.args.byte) c.args.text.now c.loop-place.place (omega arith)
    c.loop-place.invariant (grind (arith, nat_tests, c.if-text-place.true))

pub returns : goal.returns
returns c = found_nowhere (λ b. b == c.args.byte) c.args.text.now (λ k below. c.loop-place.invariant k (omega arith))
