use Rattle.std.proofs.Common.{◌∙◌, Some, ap, sym}
use Rattle.compute_cast.proofs.StoredLemmas.{mask-absent, mask-present}
use Rattle.compute_cast.proofs.to_text.mask_if_null.Goals as goal

pub returns-then-null_count-eq0-clause-ok : goal.returns-then-null_count-eq0-clause-ok
returns-then-null_count-eq0-clause-ok g c =
    mask-absent (g.A.Array.column c.args.array.now) (sym c.null_count.ensures ∙ c.if-null_count-eq0.true)

pub returns-in_ok-clone-in-Some-clause-ok : goal.returns-in_ok-clone-in-Some-clause-ok
returns-in_ok-clone-in-Some-clause-ok g c =
    mask-present (g.A.Array.column c.args.array.now) c.in_ok-clone-in-Some.field-0
    (λ e. c.if-null_count-eq0.false (c.null_count.ensures ∙ e))
    (ap Some c.in_ok-clone-in-Some.ensures.ok ∙ c.in-Some.ensures.mask)
