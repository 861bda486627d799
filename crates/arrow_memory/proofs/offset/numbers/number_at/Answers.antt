use Rattle.arrow_memory.proofs.OffsetLemmas.{value-at, not-negative}
use Rattle.arrow_memory.proofs.offset.numbers.number_at.Goals as goal

pub to_usize-requires : goal.to_usize-requires
to_usize-requires g c =
    let read = c.index-offsets-index in
    not-negative _ _ (value-at g.O.Offset.number c.args.offsets.now read.result c.args.index c.requires.keeps.whole
    c.requires.within read.is)
