use Rattle.std.proofs.Common.{pos, ap, ◌∙◌, arith}
use Rattle.arrow_memory.specs.Offsets.{last_of}
use Rattle.arrow_memory.proofs.OffsetLemmas.{length-numbers, value-last}
use Rattle.arrow_memory.proofs.offset.growing.Offsets.last.Goals as goal

pub returns-clause-value : goal.returns-clause-value
returns-clause-value g c =
    let offsets = c.self.inside.offsets in
    value-last g.O.Offset.number g.O.Offset.most offsets.items c.index.result.now _ c.self.invariant
    (omega (
      arith,
      offsets.ok.0,
      c.len.ensures,
      c.self.invariant.legal.some,
      length-numbers g.O.Offset.number offsets.items,
    )) c.index.ensures
    ∙ ap (λ ns. pos (last_of ns)) c.self.view_is
