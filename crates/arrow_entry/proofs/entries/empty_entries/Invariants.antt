use Rattle.std.proofs.Common.{◌≡◌, replicate, None}
use Rattle.arrow_entry.proofs.entries.empty_entries.Given as goal

abbrev pub invariant-loop : goal.invariant-loop
invariant-loop g l = l.entries.items ≡ replicate l.counter None
