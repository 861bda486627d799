use Rattle.arrow_kernels.proofs.ChoiceLemmas.{where-append, where-map}
use Rattle.arrow_kernels.proofs.LawLemmas.{length-where}
use Rattle.arrow_kernels.proofs.laws.marked_items.Goals as goal

pub returns-clause-count : goal.returns-clause-count
returns-clause-count g c = λ marks xs long. length-where marks xs long

pub returns-clause-each : goal.returns-clause-each
returns-clause-each g c = λ f marks xs. where-map f marks xs

pub returns-clause-joined : goal.returns-clause-joined
returns-clause-joined g c = λ marks others xs ys long. where-append marks others xs ys long
