use Rattle.std.proofs.Common.{◌-◌, ap, length, arith}
use Rattle.arrow_memory.proofs.OffsetLemmas.{length-numbers, keeps-piece, popped}
use Rattle.arrow_memory.proofs.offset.growing.Offsets.pop.Goals as goal

pub invariant_of-self : goal.invariant_of-self
invariant_of-self g c =
    let offsets = c.self.inside.offsets in
    let long = length-numbers g.O.Offset.number offsets.items in
    let slots = ap length c.self.view_is in
    rw c.pop.ensures.rest (keeps-piece g.O.Offset.number g.O.Offset.most offsets.items 0 (offsets.len - 1)
    c.self.invariant (omega (arith, long, slots, offsets.ok.0, c.len_proxy.ensures.count))
    (omega (arith, offsets.ok.0, long, slots, c.len_proxy.ensures.count)))

pub returns-else-len_proxy-eq0 : goal.returns-else-len_proxy-eq0
returns-else-len_proxy-eq0 g c =
    let offsets = c.self.inside.offsets in
    let long = length-numbers g.O.Offset.number offsets.items in
    let slots = ap length c.self.view_is in
    popped g.O.Offset.number g.O.Offset.most offsets.items c.pop.new.self.items c.args.self.now offsets.len
    c.pop.new.self.len c.pop.result _
    c.self.invariant c.self.view_is (omega (arith, offsets.ok.0)) (omega (
      arith,
      long,
      slots,
      offsets.ok.0,
      c.len_proxy.ensures.count,
    ))
    c.pop.ensures.cases c.pop.ensures.value c.pop.ensures.rest
