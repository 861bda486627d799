use Rattle.std.proofs.Common.{◌+◌, ap, arith, length}
use Rattle.arrow_memory.proofs.OffsetLemmas.{length-numbers, keeps-piece, numbers-piece}
use Rattle.arrow_memory.proofs.offset.growing.Offsets.truncate.Goals as goal

pub invariant_of-self : goal.invariant_of-self
invariant_of-self g c =
    let offsets = c.self.inside.offsets in
    let long = length-numbers g.O.Offset.number offsets.items in
    rw c.truncate.ensures.items (keeps-piece g.O.Offset.number g.O.Offset.most offsets.items 0 (c.args.slots + 1)
    c.self.invariant (omega arith) (omega (arith, long, ap length c.self.view_is, c.requires)))

pub returns : goal.returns
returns g c = rw (
  c.truncate.ensures.items,
  ← c.self.view_is,
) (numbers-piece g.O.Offset.number c.self.inside.offsets.items 0 (c.args.slots + 1))
