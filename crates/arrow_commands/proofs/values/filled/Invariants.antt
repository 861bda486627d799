use Rattle.std.proofs.Common.{◌≡◌, length, replicate, take}
use Rattle.arrow_commands.proofs.values.filled.Given as goal

-- the places so far have the value
abbrev pub invariant-loop-i : goal.invariant-loop-i
invariant-loop-i g l = (length l.values.items ≡ length l.fn.values.items)
    × (take l.i l.values.items ≡ replicate l.i l.x)
