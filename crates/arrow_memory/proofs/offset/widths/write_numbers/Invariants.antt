use Rattle.std.proofs.Common.{◌≡◌, ◌+◌, ◌≤◌, length, pos, map, take}
use Rattle.std.specs.Vec.{vec_len, vec_capacity}
use Rattle.arrow_memory.specs.Offsets.{numbers_of}
use Rattle.arrow_memory.proofs.offset.widths.write_numbers.Given as goal

-- the numbers appended so far are the first, and there is room for the others
abbrev pub invariant-loop-i : goal.invariant-loop-i
invariant-loop-i g l = record {
  numbers : map g.P.Offset.number l.written.items ≡ map pos (take l.i (numbers_of g.O.Offset.number l.offsets));
  room : vec_len l.written + length l.offsets ≤ vec_capacity l.written + l.i;
}
