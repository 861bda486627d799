use Rattle.std.proofs.Common.{map, not, ap, ◌∙◌, refl}
use Rattle.compute_base.proofs.CallerLemmas.{makes-mapped, mapped-fits}
use Rattle.compute_comparison.proofs.boolean.not.Goals as goal

pub new-requires-clause-mask : goal.new-requires-clause-mask
new-requires-clause-mask c = mapped-fits not c.args.array.now c.in_ok-values.values c.in_ok-validity.validity
    (c.in_ok-values.ensures.ok ∙ ap (map not) c.values.ensures)
    (c.in_ok-validity.ensures.ok ∙ c.validity.ensures.mask)

pub returns-clause-ok : goal.returns-clause-ok
returns-clause-ok c = makes-mapped not c.args.array.now c.in_ok-values.values c.in_ok-validity.validity
    (c.in_ok-values.ensures.ok ∙ ap (map not) c.values.ensures)
    (c.in_ok-validity.ensures.ok ∙ c.validity.ensures.mask) c.validity.ensures.is_column _ _ refl c.new.result c.new.ensures
