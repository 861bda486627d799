use Rattle.std.proofs.Common.{◌+◌, ◌*◌, ◌^◌}
use Rattle.arrow_types.proofs.native_text.+write_decimal.Given as goal

-- the number that the halves are
abbrev pub decreases-write_decimal : goal.decreases-write_decimal
decreases-write_decimal g l = l.high * 2 ^ 128 + l.low
