use Rattle.std.proofs.Common.{Some, None, if◌then◌else◌, ap, sym, ◌∙◌}
use Rattle.arrow_types.proofs.CallerLemmas.{all-by_count}
use Rattle.arrow_column.specs.Masks.{mask_with_nulls}
use Rattle.arrow_column.proofs.mask.freeze_mask.Goals as goal

pub returns-then-unset-eq0-clause-ok : goal.returns-then-unset-eq0-clause-ok
returns-then-unset-eq0-clause-ok c =
    let marks = c.in-Some.marks in
    let whole = (all-by_count marks).0 (sym c.unset_bits-unset.ensures ∙ c.if-unset-eq0.true) in
    sym (ap mask_with_nulls c.in-Some.is ∙ ap (λ b. if b then None else Some marks) whole)

pub returns-clause-ok : goal.returns-clause-ok
returns-clause-ok c =
    let marks = c.in-Some.marks in
    let clear = (all-by_count marks).1 (λ e. c.if-unset-eq0.false (c.unset_bits-unset.ensures ∙ e)) in
    ap Some c.in_ok-freeze_counted.ensures.ok ∙ sym (ap mask_with_nulls c.in-Some.is
    ∙ ap (λ b. if b then None else Some marks) clear)
