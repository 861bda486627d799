use Rattle.std.proofs.Common.{refl}
use Rattle.compute_comparison.specs.Comparison.{unequal}
use Rattle.compute_comparison.proofs.LawLemmas.{less, less-or-equal, not-greater, not-greater-scalar, not-less}
use Rattle.compute_comparison.proofs.LawLemmas.{not-less-scalar, opposite}
use Rattle.compute_comparison.proofs.laws.compared_slots.Goals as goal

pub returns-clause-not_less : goal.returns-clause-not_less
returns-clause-not_less g c = not-less

pub returns-clause-not_greater : goal.returns-clause-not_greater
returns-clause-not_greater g c = not-greater

pub returns-clause-not_equal : goal.returns-clause-not_equal
returns-clause-not_equal g c = λ equal xs ys. opposite equal (unequal equal) (λ x y. refl) xs ys

pub returns-clause-less : goal.returns-clause-less
returns-clause-less g c = λ cmp total xs ys. less cmp xs ys total

pub returns-clause-less_or_equal : goal.returns-clause-less_or_equal
returns-clause-less_or_equal g c = λ cmp total xs ys. less-or-equal cmp xs ys total

pub returns-clause-not_less_scalar : goal.returns-clause-not_less_scalar
returns-clause-not_less_scalar g c = not-less-scalar

pub returns-clause-not_greater_scalar : goal.returns-clause-not_greater_scalar
returns-clause-not_greater_scalar g c = not-greater-scalar
