use Rattle.std.proofs.Common.{◌-◌, ◌≤◌, take}
use Rattle.std.specs.Str.{IsAscii}
use Rattle.arrow_check.proofs.cost.is_ascii_by_halves.Given as goal

-- so much of both halves is ASCII
abbrev pub invariant-loop-at : goal.invariant-loop-at
invariant-loop-at l = record {
  within : l.at ≤ l.half;
  front : IsAscii (take l.at l.front);
  back : IsAscii (take l.at l.back);
}

abbrev pub decreases-loop-at : goal.decreases-loop-at
decreases-loop-at l = l.half - l.at
