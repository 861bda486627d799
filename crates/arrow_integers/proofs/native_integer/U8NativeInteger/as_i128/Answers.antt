use Rattle.std.specs.Int.{w8}
use Rattle.arrow_integers.specs.NativeNumbers.{unsigned_decides}
use Rattle.arrow_integers.proofs.native_integer.U8NativeInteger.as_i128.Goals as goal

pub returns-clause-fits : goal.returns-clause-fits
returns-clause-fits c = (unsigned_decides w8 c.args.self).1 c.ranges.self.fits
