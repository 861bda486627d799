use Rattle.std.specs.Int.{w64}
use Rattle.arrow_integers.specs.NativeNumbers.{signed_decides}
use Rattle.arrow_integers.proofs.native_integer.I64NativeInteger.as_i128.Goals as goal

pub returns-clause-fits : goal.returns-clause-fits
returns-clause-fits c = (signed_decides w64 c.args.self).1 c.ranges.self
