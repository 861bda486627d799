use Rattle.std.proofs.Common.{◌∙◌, ap}
use Rattle.std.proofs.lemmas.List.{map-id}
use Rattle.compute_comparison.specs.Comparison.{equal_slots}
use Rattle.compute_comparison.specs.Slots.{booleans}
use Rattle.compute_comparison.proofs.comparison.eq_and_validity.Goals as goal

pub returns-clause-ok : goal.returns-clause-ok
returns-clause-ok g c = c.new.ensures ∙ ap booleans (c.in_ok-equal.ensures.ok
    ∙ map-id (equal_slots g.A.EqualArray.equal (g.A.Array.column c.args.lhs.now) (g.A.Array.column c.args.rhs.now)))
