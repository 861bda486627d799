use Rattle.std.proofs.Common.{arith}
use Rattle.arrow_memory.proofs.OffsetLemmas.{order-at, slot-end}
use Rattle.arrow_memory.proofs.offset.numbers.start_end_of.Goals as goal

-- src/offset/numbers.rt:31:9
pub distance_to-length-requires-clause-order : goal.distance_to-length-requires-clause-order
distance_to-length-requires-clause-order g c = order-at g.O.Offset.number g.O.Offset.most c.args.offsets.now _ _
    c.args.index c.requires.keeps c.requires.within c.index-offsets-index.is c.index-offsets-index-2.is

-- src/offset/numbers.rt:32:13
pub overflow_add-result : goal.overflow_add-result
overflow_add-result g c = omega (
  arith,
  c.number_at-start.ensures,
  slot-end g.O.Offset.number g.O.Offset.most c.args.offsets.now _ _ c.args.index c.distance_to-length.result
      c.requires.keeps c.requires.within c.index-offsets-index.is c.index-offsets-index-2.is
      c.distance_to-length.ensures,
  c.requires.keeps.within,
  g.met.O.Offset.fits,
)

-- src/offset/numbers.rt:20:1
pub returns-clause-last : goal.returns-clause-last
returns-clause-last g c = omega (
  arith,
  c.number_at-start.ensures,
  slot-end g.O.Offset.number g.O.Offset.most c.args.offsets.now _ _ c.args.index c.distance_to-length.result
      c.requires.keeps c.requires.within c.index-offsets-index.is c.index-offsets-index-2.is
      c.distance_to-length.ensures,
)
