use Rattle.std.proofs.Common.{Some, None, if◌then◌else◌, ap, sym, ◌∙◌}
use Rattle.arrow_types.proofs.CallerLemmas.{all-by_count}
use Rattle.compute_base.proofs.masks.needed_mask.Goals as goal

pub returns-then-unset_bits-eq0 : goal.returns-then-unset_bits-eq0
returns-then-unset_bits-eq0 c =
    let whole = (all-by_count c.args.marks).0 (sym c.unset_bits.ensures ∙ c.if-unset_bits-eq0.true) in
    sym (ap (λ b. if b then None else Some c.args.marks) whole)

pub returns : goal.returns
returns c =
    let clear = (all-by_count c.args.marks).1 (λ e. c.if-unset_bits-eq0.false (c.unset_bits.ensures ∙ e)) in
    sym (ap (λ b. if b then None else Some c.args.marks) clear)
