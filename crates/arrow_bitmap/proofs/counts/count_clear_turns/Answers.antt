use Rattle.std.proofs.Common.{◌*◌, arith}
use Rattle.arrow_bitmap.proofs.CountLemmas.{clear_step-turn}
use Rattle.arrow_bitmap.proofs.MarkLemmas.{clear-le}
use Rattle.arrow_bitmap.proofs.counts.count_clear_turns.Goals as goal

pub loop-turn-init : goal.loop-turn-init
loop-turn-init c = omega (arith, c.new-set.ensures, clear-le c.args.bytes.now (8 * c.args.first) 0)

pub loop-turn-preserved : goal.loop-turn-preserved
loop-turn-preserved c = omega (
  arith,
  c.loop-turn.invariant,
  c.add_four.ensures,
  clear_step-turn c.args.bytes.now c.args.first c.loop-turn.turn,
)
