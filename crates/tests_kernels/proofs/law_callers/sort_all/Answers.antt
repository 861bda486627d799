use Rattle.std.proofs.Common.{None, refl}
use Rattle.std.specs.Ordering.{int_cmp}
use Rattle.std.proofs.lemmas.Result.{MatchResult-weaker}
use Rattle.arrow_column.specs.Column.{slots_of}
use Rattle.tests_kernels.proofs.law_callers.sort_all.Goals as goal

pub returns : goal.returns
returns c =
    MatchResult-weaker c.sort.result c.sort.ensures.slots (λ made has.
    c.sorted_slots.ensures.permutation c.args.options int_cmp (slots_of c.args.array.now) None (slots_of made) has refl)
    (λ _ t. t)
