use Rattle.std.proofs.Common.{◌*◌, arith}
use Rattle.arrow_bitmap.proofs.MarkLemmas.{clear-empty}
use Rattle.arrow_bitmap.proofs.bits.count_clear_front.Goals as goal

pub returns-then-turns-eq0 : goal.returns-then-turns-eq0
returns-then-turns-eq0 c =
    clear-empty c.args.bytes.now (8 * c.args.first) (2048 * c.args.turns) (omega (arith, c.if-turns-eq0.true))
