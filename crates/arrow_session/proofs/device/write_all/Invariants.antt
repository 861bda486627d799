use Rattle.std.proofs.Common.{◌≡◌, ◌+◌, ◌-◌, ◌^◌, ◌<◌, ◌≤◌, ◌++◌, length, List, ℕ}
use Rattle.std.specs.Io.KnownBytes.{Appends}
use Rattle.arrow_session.specs.Counted.{inside, fault_count}
use Rattle.arrow_session.proofs.device.write_all.Given as goal

abbrev pub invariant-loop : goal.invariant-loop
invariant-loop g l = record {
  put : (front : List ℕ) × (l.fn.text ≡ front ++ l.rest)
      × Appends (g.W.Write.contents (inside l.fn.output)) (g.W.Write.contents (inside l.output)) front;
  rising : fault_count l.fn.output ≤ fault_count l.output;
  turns : fault_count l.fn.output < 2 ^ 64 - 1 → fault_count l.output ≡ fault_count l.fn.output
      → l.counter + length l.rest ≤ length l.fn.text;
}
