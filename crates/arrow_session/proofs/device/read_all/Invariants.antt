use Rattle.std.proofs.Common.{◌≡◌, ◌-◌, ◌^◌, ◌<◌, ◌≤◌, false, vec_len}
use Rattle.std.specs.Io.KnownBytes.{Consumes}
use Rattle.arrow_session.specs.Counted.{inside, fault_count, found_end}
use Rattle.arrow_session.proofs.device.read_all.Given as goal

abbrev pub invariant-loop : goal.invariant-loop
invariant-loop g l = record {
  piece : 0 < vec_len l.piece;
  taken : Consumes (g.R.Read.remaining (inside l.fn.input)) (g.R.Read.remaining (inside l.input)) l.bytes.items;
  rising : fault_count l.fn.input ≤ fault_count l.input;
  turns : fault_count l.fn.input < 2 ^ 64 - 1 → fault_count l.input ≡ fault_count l.fn.input
      → l.counter ≤ vec_len l.bytes;
  unended : found_end l.input ≡ false;
}
