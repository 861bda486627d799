use Rattle.std.proofs.Common.{◌^◌, ◌<◌}
use Rattle.compute_cast.proofs.DigitLemmas.{HasRead}
use Rattle.compute_cast.proofs.digits.short_value.Given as goal

abbrev pub invariant-loop-i : goal.invariant-loop-i
invariant-loop-i l = record { read : HasRead l.digits l.i l.value; below : l.value < 10 ^ l.i }
