use Rattle.std.proofs.Common.{arith}
use Rattle.arrow_bitmap.proofs.CopyLemmas.{packed_bit}
use Rattle.arrow_bitmap.proofs.pack.pack_byte.Goals as goal

pub loop-index-preserved : goal.loop-index-preserved
loop-index-preserved c = packed_bit c.args.values.now c.loop-index.byte c.with_bit-byte.result c.loop-index.index
    (omega arith) c.loop-index.invariant c.with_bit-byte.ensures.same c.with_bit-byte.ensures.others
