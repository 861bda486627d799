use Rattle.std.proofs.Common.{◌≡◌, take}
use Rattle.arrow_memory.specs.Offsets.{numbers_of}
use Rattle.arrow_commands.proofs.read.to_numbers.Given as goal

abbrev pub invariant-loop-i : goal.invariant-loop-i
invariant-loop-i g l = l.numbers.items ≡ take l.i (numbers_of g.O.Offset.number l.fn.offsets)
