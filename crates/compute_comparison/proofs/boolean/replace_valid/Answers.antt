use Rattle.std.proofs.Common.{◌∙◌, ap, refl, replicate}
use Rattle.compute_base.proofs.CallerLemmas.{makes-mapped, mapped-fits}
use Rattle.compute_comparison.proofs.ScalarLemmas.{same-for-all}
use Rattle.compute_comparison.proofs.boolean.replace_valid.Goals as goal

pub new-requires-clause-mask : goal.new-requires-clause-mask
new-requires-clause-mask c =
    let value = c.args.value in
    let values = c.in_ok-values.ensures.ok ∙ ap (λ n. replicate n value) c.len.ensures
    ∙ same-for-all c.args.array.now.rows value in
    mapped-fits (λ x. value) c.args.array.now c.in_ok-values.values c.in_ok-validity.validity values
    (c.in_ok-validity.ensures.ok ∙ c.validity.ensures.mask)

pub returns-clause-ok : goal.returns-clause-ok
returns-clause-ok c =
    let value = c.args.value in
    let values = c.in_ok-values.ensures.ok ∙ ap (λ n. replicate n value) c.len.ensures
    ∙ same-for-all c.args.array.now.rows value in
    makes-mapped (λ x. value) c.args.array.now c.in_ok-values.values c.in_ok-validity.validity values
    (c.in_ok-validity.ensures.ok ∙ c.validity.ensures.mask) c.validity.ensures.is_column _ _ refl c.new.result
    c.new.ensures
