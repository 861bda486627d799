use Rattle.std.proofs.Common.{◌∙◌, ap, false, option_map, refl, Some, subst, sym, true}
use Rattle.std.proofs.lemmas.Result.{MatchResult-weaker}
use Rattle.compute_comparison.specs.Kleene.{kleene_and}
use Rattle.compute_comparison.specs.Slots.{CombinesWithSlot}
use Rattle.compute_comparison.proofs.ScalarLemmas.{by-scalar, decided, known-and-false, known-and-true}
use Rattle.compute_comparison.proofs.boolean_kleene.and_scalar.Goals as goal

pub returns-in-Some-true-clause-ok : goal.returns-in-Some-true-clause-ok
returns-in-Some-true-clause-ok c =
    let is = c.in-Some-true.is ∙ ap Some c.in-Some-true.field-0-test in
    MatchResult-weaker c.keep_slots.result c.keep_slots.ensures.ok (λ made maps.
    by-scalar kleene_and (option_map (λ x. x)) c.args.array.now c.args.scalar true made is known-and-true refl maps)
    (λ _ t. t)

pub returns-in-Some-false-clause-ok : goal.returns-in-Some-false-clause-ok
returns-in-Some-false-clause-ok c =
    let is = c.in-Some-false.is ∙ ap Some c.in-Some-false.field-0-test in
    MatchResult-weaker c.repeat_value.result c.repeat_value.ensures.ok (λ made e.
    decided kleene_and false known-and-false c.args.array.now c.args.scalar c.len.result made is c.len.ensures e)
    (λ _ t. t)

pub returns-in-None-clause-ok : goal.returns-in-None-clause-ok
returns-in-None-clause-ok c =
    MatchResult-weaker c.combine_with_null.result c.combine_with_null.ensures.ok (λ made combines.
    subst (λ s. CombinesWithSlot kleene_and c.args.array.now s made) (sym c.in-None.is) combines) (λ _ t. t)
