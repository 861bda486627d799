use Rattle.std.proofs.Common.{◌≡◌, ap, ◌∙◌, arith}
use Rattle.std.proofs.lemmas.Int.{ints}
use Rattle.arrow_memory.specs.Offsets.{last_of, numbers_of}
use Rattle.arrow_memory.proofs.OffsetLemmas.{keeps-pushed}
use Rattle.arrow_memory.proofs.offset.growing.Offsets.try_push_item.Goals as goal

pub invariant_of-self : goal.invariant_of-self
invariant_of-self g c =
    let number = g.O.Offset.number in
    let offsets = c.self.inside.offsets in
    let here : last_of (numbers_of number offsets.items) ≡ c.to_usize-last.result =
    ap last_of c.self.view_is ∙ omega (arith, ints, c.last.ensures.value, c.to_usize-last.ensures.value) in
    keeps-pushed number g.O.Offset.most offsets.items c.push_reserved.new.self.items _ _ c.self.invariant
    (omega (arith, here)) (omega (arith, c.if-item-to_usize.false)) c.from_as_usize.ensures
    c.push_reserved.ensures.items

pub returns-clause-legal : goal.returns-clause-legal
returns-clause-legal g c =
    let number = g.O.Offset.number in
    let offsets = c.self.inside.offsets in
    let here : last_of (numbers_of number offsets.items) ≡ c.to_usize-last.result =
    ap last_of c.self.view_is ∙ omega (arith, ints, c.last.ensures.value, c.to_usize-last.ensures.value) in
    (keeps-pushed number g.O.Offset.most offsets.items c.push_reserved.new.self.items _ _ c.self.invariant
    (omega (arith, here)) (omega (arith, c.if-item-to_usize.false)) c.from_as_usize.ensures
    c.push_reserved.ensures.items).legal
