use Rattle.std.specs.Int.{w32}
use Rattle.arrow_integers.specs.NativeNumbers.{signed_decides}
use Rattle.arrow_integers.proofs.native_integer.I32NativeInteger.as_i128.Goals as goal

pub returns-clause-fits : goal.returns-clause-fits
returns-clause-fits c = (signed_decides w32 c.args.self).1 c.ranges.self
