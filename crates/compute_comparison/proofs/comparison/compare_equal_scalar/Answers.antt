use Rattle.std.proofs.Common.{◌∙◌, refl}
use Rattle.compute_base.proofs.CallerLemmas.{makes-mapped, mapped-fits}
use Rattle.compute_comparison.proofs.comparison.compare_equal_scalar.Goals as goal

pub new-requires-clause-mask : goal.new-requires-clause-mask
new-requires-clause-mask g c =
    let value = g.S.EqualScalar.value c.args.rhs in
    mapped-fits (λ x. g.C.Equality.holds (g.A.EqualArray.equal x value))
    (g.A.Array.column c.args.lhs.now) c.in_ok-truths.truths c.in_ok-validity.validity c.in_ok-truths.ensures.ok
    (c.in_ok-validity.ensures.ok ∙ c.validity.ensures.mask)

pub returns-clause-ok : goal.returns-clause-ok
returns-clause-ok g c =
    let value = g.S.EqualScalar.value c.args.rhs in
    makes-mapped (λ x. g.C.Equality.holds (g.A.EqualArray.equal x value))
    (g.A.Array.column c.args.lhs.now) c.in_ok-truths.truths c.in_ok-validity.validity c.in_ok-truths.ensures.ok
    (c.in_ok-validity.ensures.ok ∙ c.validity.ensures.mask) c.validity.ensures.is_column _ _ refl c.new.result c.new.ensures
