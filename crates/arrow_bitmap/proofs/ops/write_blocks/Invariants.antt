use Rattle.std.proofs.Common.{◌≡◌, ◌*◌, length}
use Rattle.arrow_bitmap.specs.MarkWrites.{WritesCombined}
use Rattle.arrow_bitmap.proofs.ops.write_blocks.Given as goal

abbrev pub invariant-loop-block : goal.invariant-loop-block
invariant-loop-block g l = record {
  marks : WritesCombined g.O.MarkOp.op l.fn.first l.fn.second l.from (512 * l.block) l.fn.target l.target;
  long : length l.target ≡ length l.fn.target;
}
