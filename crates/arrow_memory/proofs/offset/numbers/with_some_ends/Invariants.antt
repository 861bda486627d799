use Rattle.std.proofs.Common.{◌≡◌, ◌+◌, ◌++◌, pos, map}
use Rattle.std.specs.Prelude.{slice_range}
use Rattle.std.specs.Vec.{vec_len, vec_capacity}
use Rattle.arrow_memory.specs.Offsets.{numbers_of, moved_behind}
use Rattle.arrow_memory.proofs.offset.numbers.with_some_ends.Given as goal

-- the ends appended so far are the first of those that are moved, and there is room for the others
abbrev pub invariant-loop-i : goal.invariant-loop-i
invariant-loop-i g l =
    let number = g.O.Offset.number in
    record {
      ends : map number l.offsets.items ≡ map number l.fn.offsets.items
          ++ map pos (slice_range (moved_behind l.last (numbers_of number l.other)) l.from l.i);
      count : vec_len l.offsets + l.from ≡ vec_len l.fn.offsets + l.i;
      capacity : vec_capacity l.offsets ≡ vec_capacity l.fn.offsets;
    }
