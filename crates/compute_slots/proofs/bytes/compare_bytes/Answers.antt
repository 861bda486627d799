use Rattle.std.proofs.Common.{◌∙◌, ap₂, arith, nat_cmp, sym}
use Rattle.compute_slots.proofs.BytesLemmas.{bytes_order}
use Rattle.compute_slots.proofs.bytes.compare_bytes.Goals as goal

pub returns : goal.returns
returns c = c.cmp-2.ensures ∙ ap₂ nat_cmp c.first_four-x.ensures.value c.first_four-y.ensures.value
    ∙ bytes_order c.args.lhs.now c.args.rhs.now (omega (arith, c.if-lhs-lt4.false)) (omega (arith, c.if-rhs-lt4.false))
    c.first_four-x.ensures.bytes c.first_four-y.ensures.bytes
    (λ e. c.if-x-y.false (c.first_four-x.ensures.value ∙ e ∙ sym c.first_four-y.ensures.value))
