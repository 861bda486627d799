use Rattle.std.proofs.Common.{◌&&◌, ◌∙◌, ap, false, option_map, refl, Some, true}
use Rattle.std.proofs.lemmas.Result.{MatchResult-weaker}
use Rattle.compute_comparison.specs.Logic.{and_slots}
use Rattle.compute_comparison.proofs.ScalarLemmas.{and-false-slot, and-true-slot, by-scalar, makes-null}
use Rattle.compute_comparison.proofs.boolean.and_scalar.Goals as goal

pub returns-in-Some-true-clause-ok : goal.returns-in-Some-true-clause-ok
returns-in-Some-true-clause-ok c =
    let is = c.in-Some-true.is ∙ ap Some c.in-Some-true.field-0-test in
    MatchResult-weaker c.keep_slots.result c.keep_slots.ensures.ok (λ made maps.
    by-scalar and_slots (option_map (λ x. x)) c.args.array.now c.args.scalar true made is and-true-slot refl maps)
    (λ _ t. t)

pub returns-in-Some-false-clause-ok : goal.returns-in-Some-false-clause-ok
returns-in-Some-false-clause-ok c =
    let is = c.in-Some-false.is ∙ ap Some c.in-Some-false.field-0-test in
    MatchResult-weaker c.replace_valid.result c.replace_valid.ensures.ok (λ made maps.
    by-scalar and_slots (option_map (λ x. false)) c.args.array.now c.args.scalar false made is and-false-slot refl maps)
    (λ _ t. t)

pub returns-in-None-clause-ok : goal.returns-in-None-clause-ok
returns-in-None-clause-ok c =
    MatchResult-weaker c.new_null.result c.new_null.ensures.ok (λ made e.
    makes-null (λ x y. x && y) c.args.array.now c.args.scalar c.len.result made c.in-None.is c.len.ensures e) (λ _ t. t)
