use Rattle.std.proofs.Common.{◌∙◌, ◌-◌, ap, ap₂, arith, pos}
use Rattle.compute_select.proofs.length.item_length.Goals as goal

pub returns-clause-size : goal.returns-clause-size
returns-clause-size g c =
    let read = c.start_end_of-start.ensures in
    c.from_as_usize.ensures ∙ ap pos (ap₂ (λ to from. to - from) read.end read.start)

pub returns-clause-last : goal.returns-clause-last
returns-clause-last g c = omega (arith, c.start_end_of-start.ensures.end, c.start_end_of-start.ensures.last)
