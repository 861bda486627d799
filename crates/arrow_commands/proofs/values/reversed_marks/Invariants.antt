use Rattle.arrow_commands.proofs.ValueLists.{TurnedSoFar}
use Rattle.arrow_commands.proofs.values.reversed_marks.Given as goal

-- this many are swapped from both ends
abbrev pub invariant-loop-i : goal.invariant-loop-i
invariant-loop-i l = TurnedSoFar l.i l.fn.marks l.marks
