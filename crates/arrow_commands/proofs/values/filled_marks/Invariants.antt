use Rattle.std.proofs.Common.{◌≡◌, length, replicate, take}
use Rattle.arrow_commands.proofs.values.filled_marks.Given as goal

-- the places so far have the mark
abbrev pub invariant-loop-i : goal.invariant-loop-i
invariant-loop-i l = (length l.marks ≡ length l.fn.marks) × (take l.i l.marks ≡ replicate l.i l.mark)
