use Rattle.std.proofs.Common.{◌≡◌, take}
use Rattle.arrow_column.specs.Column.{slots_of}
use Rattle.compute_cast.specs.Decimals.{decimal_bytes}
use Rattle.compute_cast.proofs.to_text.decimals_error.Given as goal

abbrev pub invariant-loop-i : goal.invariant-loop-i
invariant-loop-i g l = l.bytes ≡ decimal_bytes g.A.NumberSlots.number (take l.i (slots_of (g.A.Array.column l.array)))
