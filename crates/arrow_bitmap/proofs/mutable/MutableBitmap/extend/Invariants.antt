use Rattle.std.proofs.Common.{◌≡◌, ◌++◌}
use Rattle.arrow_bitmap.proofs.mutable.MutableBitmap.extend.Given as goal

abbrev pub invariant-loop-mark : goal.invariant-loop-mark
invariant-loop-mark g l = l.self ≡ l.fn.self ++ l.yielded
