use Rattle.std.proofs.Common.{arith}
use Rattle.compute_cast.proofs.DigitLemmas.{room-for-one}
use Rattle.compute_cast.proofs.digits.short_value.Goals as goal

pub overflow_mul-value : goal.overflow_mul-value
overflow_mul-value c =
    let room = room-for-one c.loop-i.i c.loop-i.value c.loop-i.invariant.below (omega (arith, c.loop-i-test.true, c.requires)) in
    omega (arith, room)

pub overflow_add-value : goal.overflow_add-value
overflow_add-value c =
    let room = room-for-one c.loop-i.i c.loop-i.value c.loop-i.invariant.below (omega (arith, c.loop-i-test.true, c.requires)) in
    omega (arith, room, c.from.ensures, c.if-not-is_ascii_digit.ensures.cases)
