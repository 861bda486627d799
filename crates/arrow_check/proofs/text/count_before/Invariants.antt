use Rattle.std.proofs.Common.{◌+◌, ◌-◌, ◌≤◌, length}
use Rattle.arrow_memory.specs.Offsets.{numbers_of}
use Rattle.arrow_check.specs.Windows.{LieAt}
use Rattle.arrow_check.proofs.text.count_before.Given as goal

-- the inner offsets that were passed over are the end
abbrev pub invariant-loop-count : goal.invariant-loop-count
invariant-loop-count g l = record {
  inner : l.count ≤ length l.offsets - 2;
  behind : LieAt (l.count + 1) l.end (numbers_of g.O.Offset.number l.offsets);
}

abbrev pub decreases-loop-count : goal.decreases-loop-count
decreases-loop-count g l = l.count
