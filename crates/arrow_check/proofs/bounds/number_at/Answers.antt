use Rattle.std.proofs.Common.{arith}
use Rattle.std.proofs.lemmas.Int.{ints}
use Rattle.arrow_memory.proofs.CallerLemmas.{value-at, not-negative}
use Rattle.arrow_check.proofs.bounds.number_at.Goals as goal

pub to_usize-requires : goal.to_usize-requires
to_usize-requires g c =
    let read = c.index-offsets-index in
    not-negative _ _ (value-at g.O.Offset.number c.args.offsets.now read.result c.args.index c.requires.legal.whole
    c.requires.within read.is)

pub returns : goal.returns
returns g c =
    let read = c.index-offsets-index in
    let at = value-at g.O.Offset.number c.args.offsets.now read.result c.args.index c.requires.legal.whole
    c.requires.within read.is in
    omega (arith, ints, at, c.to_usize.ensures.value)
