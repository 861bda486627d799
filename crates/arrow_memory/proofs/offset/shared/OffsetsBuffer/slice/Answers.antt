use Rattle.std.proofs.Common.{ap, length, arith}
use Rattle.arrow_memory.proofs.OffsetLemmas.{length-numbers, keeps-piece, numbers-piece}
use Rattle.arrow_memory.proofs.offset.shared.OffsetsBuffer.slice.Goals as goal

pub invariant_of-self : goal.invariant_of-self
invariant_of-self g c =
    let offsets = c.self.inside.offsets in
    let long = length-numbers g.O.Offset.number offsets in
    rw c.slice.ensures (keeps-piece g.O.Offset.number g.O.Offset.most offsets c.args.offset c.args.len
    c.self.invariant c.requires.some (omega (arith, long, ap length c.self.view_is, c.requires.within)))

pub returns-clause-value : goal.returns-clause-value
returns-clause-value g c =
    rw (c.slice.ensures, ← c.self.view_is) (numbers-piece g.O.Offset.number c.self.inside.offsets c.args.offset
    c.args.len)

pub returns-clause-legal : goal.returns-clause-legal
returns-clause-legal g c =
    let offsets = c.self.inside.offsets in
    let long = length-numbers g.O.Offset.number offsets in
    rw c.slice.ensures (keeps-piece g.O.Offset.number g.O.Offset.most offsets c.args.offset c.args.len
    c.self.invariant c.requires.some (omega (arith, long, ap length c.self.view_is, c.requires.within))).legal
