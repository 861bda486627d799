use Rattle.std.proofs.Common.{get_or, ◌/◌, ◌%◌, arith}
use Rattle.arrow_bitmap.proofs.MarkLemmas.{mark_by_mask}
use Rattle.arrow_bitmap.specs.Marks.{mark_at}
use Rattle.arrow_bitmap.proofs.bits.mark_of.Goals as goal

pub returns : goal.returns
unfolding mark_at
returns c = mark_by_mask (get_or c.args.bytes.now (c.args.index / 8) 0) (c.args.index % 8) (omega arith)
