use Rattle.std.proofs.Common.{◌∙◌, ap, map, w64}
use Rattle.std.specs.Ordering.{int_cmp, is_lt}
use Rattle.std.proofs.lemmas.Int.{to_z-of_z}
use Rattle.std.proofs.lemmas.Result.{MatchResult-weaker}
use Rattle.arrow_column.specs.Column.{slots_of}
use Rattle.compute_comparison.specs.Comparison.{compare_slot}
use Rattle.compute_comparison.specs.Logic.{not_slot}
use Rattle.tests_kernels.proofs.law_callers.is_not_less.Goals as goal

pub returns : goal.returns
returns c =
    let slots = slots_of c.args.array.now in
    MatchResult-weaker c.not.result c.not.ensures.ok (λ made maps. maps.slots
    ∙ ap (map not_slot) c.in_ok-less.ensures.ok.slots
    ∙ ap (λ number. map not_slot (map (compare_slot is_lt int_cmp number) slots))
    (to_z-of_z w64 c.args.number c.ranges.number)
    ∙ c.compared_slots.ensures.not_less_scalar int_cmp c.args.number slots) (λ _ t. t)
