use Rattle.std.proofs.Common.{◌≡◌, ◌++◌, length, reverse}
use Rattle.arrow_commands.proofs.mask.reversed.Given as goal

abbrev pub invariant-loop-mark : goal.invariant-loop-mark
invariant-loop-mark l = l.reversed ++ reverse l.rest ≡ reverse l.fn.marks

abbrev pub decreases-loop-mark : goal.decreases-loop-mark
decreases-loop-mark l = length l.rest
