use Rattle.std.proofs.Common.{◌≡◌, ◌≤◌, pos, false, ◌||◌, map, drop}
use Rattle.arrow_memory.specs.Offsets.{falls_after}
use Rattle.arrow_memory.proofs.OffsetLemmas.{last_after}
use Rattle.arrow_memory.proofs.offset.faults.first_broken_rule.Given as goal

-- what was seen so far and what is left fall where the whole does, and end where it ends
abbrev pub invariant-loop-offset : goal.invariant-loop-offset
invariant-loop-offset g l =
    let number = g.O.Offset.number in
    let rest = map number (drop l.offset-index l.offsets) in
    record {
      told : (l.falls || falls_after (pos l.before) rest) ≡ falls_after (pos l.start) (map number l.offsets);
      end : l.falls ≡ false → last_after l.before rest ≡ last_after l.start (map number l.offsets);
      within : l.before ≤ g.O.Offset.most;
    }
