use Rattle.std.proofs.Common.{arith}
use Rattle.arrow_memory.specs.Offsets.{numbers_of, moved_behind}
use Rattle.arrow_memory.proofs.OffsetLemmas.{length-moved, length-numbers, moved-parts}
use Rattle.arrow_memory.proofs.offset.numbers.with_ends.Goals as goal

pub returns : goal.returns
returns g c =
    let number = g.O.Offset.number in
    let ns = numbers_of number c.args.other.now in
    moved-parts number c.args.offsets.items c.with_some_ends-offsets.result.items c.with_some_ends.result.items
    (moved_behind c.args.last ns) _ _ (omega arith)
    (omega (arith, length-moved c.args.last ns, length-numbers number c.args.other.now))
    c.with_some_ends-offsets.ensures.ends c.with_some_ends.ensures.ends
