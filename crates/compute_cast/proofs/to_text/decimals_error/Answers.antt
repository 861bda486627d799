use Rattle.std.proofs.Common.{◌+◌, ◌<◌, ◌∙◌, ap, ap₂, arith, sym, take}
use Rattle.arrow_column.specs.Column.{refused_growth, slots_of}
use Rattle.compute_cast.specs.Decimals.{decimal_bytes}
use Rattle.compute_cast.proofs.TextLemmas.{more-counted, next-slot, number-size, past-counted, size_of}
use Rattle.compute_cast.proofs.to_text.decimals_error.Goals as goal

pub returns-in-None : goal.returns-in-None
returns-in-None g c =
    let number = g.A.NumberSlots.number in
    let slots = slots_of (g.A.Array.column c.args.array.now) in
    let next = next-slot number slots c.loop-i.i c.get_number.result c.get_number.ensures in
    let past : g.O.Offset.most < decimal_bytes number (take c.loop-i.i slots) + size_of number next.0 = omega (
      arith,
      g.met.O.Offset.fits,
      c.in-None.ensures,
      c.loop-i.invariant,
      c.slot_length.ensures,
      number-size number next.0 c.get_number.result next.2,
    ) in
    ap refused_growth (sym (past-counted number slots c.loop-i.i next.0 next.1 g.O.Offset.most past))

pub loop-i-preserved : goal.loop-i-preserved
loop-i-preserved g c =
    let number = g.A.NumberSlots.number in
    let slots = slots_of (g.A.Array.column c.args.array.now) in
    let next = next-slot number slots c.loop-i.i c.get_number.result c.get_number.ensures in
    c.in-Some.ensures.1
    ∙ ap₂ ◌+◌ c.loop-i.invariant (c.slot_length.ensures ∙ number-size number next.0 c.get_number.result next.2)
    ∙ sym (more-counted number slots c.loop-i.i next.0 next.1)
