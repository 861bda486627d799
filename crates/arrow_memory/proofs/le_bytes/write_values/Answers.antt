use Rattle.std.proofs.Common.{arith}
use Rattle.arrow_memory.proofs.ChunkLemmas.{chunk-written}
use Rattle.arrow_memory.proofs.le_bytes.write_values.Goals as goal

pub loop-i-preserved : goal.loop-i-preserved
loop-i-preserved g c = chunk-written g.T.FromLeBytes.of_bytes g.T.FromLeBytes.SIZE c.SIZE.result c.SIZE-in-loop-i.result
    c.loop-i.i c.args.bytes.now c.loop-i.values c.from_le_slice.result c.SIZE.ensures c.SIZE-in-loop-i.ensures
    (omega arith) c.from_le_slice.ensures c.loop-i.invariant
