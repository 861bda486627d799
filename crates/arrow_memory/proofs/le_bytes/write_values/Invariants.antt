use Rattle.std.proofs.Common.{◌≡◌, map, take}
use Rattle.std.specs.Simd.{first_chunks}
use Rattle.arrow_memory.proofs.le_bytes.write_values.Given as goal

-- the values written so far are those of the first chunks
abbrev pub invariant-loop-i : goal.invariant-loop-i
invariant-loop-i g l =
    take l.i l.values ≡ map g.T.FromLeBytes.of_bytes (first_chunks g.T.FromLeBytes.SIZE l.i l.bytes)
