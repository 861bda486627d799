use Rattle.std.proofs.Common.{◌∙◌, ap}
use Rattle.std.proofs.lemmas.List.{map-id}
use Rattle.compute_comparison.specs.Comparison.{slots_equal_to}
use Rattle.compute_comparison.specs.Slots.{booleans}
use Rattle.compute_comparison.proofs.comparison.eq_scalar_and_validity.Goals as goal

pub returns-clause-ok : goal.returns-clause-ok
returns-clause-ok g c = c.new.ensures ∙ ap booleans (c.in_ok-equal.ensures.ok
    ∙ map-id (slots_equal_to g.A.EqualArray.equal (g.A.Array.column c.args.lhs.now) (g.S.EqualScalar.value c.args.rhs)))
