use Rattle.std.proofs.Common.{◌∙◌, ◌+◌, ◌%◌, ◌^◌, ℕ, Option, Some, ap, arith, fold, get_or, refl}
use Rattle.std.proofs.lemmas.List.{length-map, take_all}
use Rattle.std.proofs.lemmas.Option.{slice_get-get_or}
use Rattle.arrow_types.proofs.CallerLemmas.{get-map}
use Rattle.compute_aggregate.specs.Groups.{count_step, own_pairs, values_at}
use Rattle.compute_aggregate.proofs.GroupLemmas.{row_more}
use Rattle.compute_aggregate.proofs.aggregate.groups.count_indices.Goals as goal

pub loop-i-preserved : goal.loop-i-preserved
loop-i-preserved c = λ k low.
    let one : ℕ → ℕ × Option ℕ = λ number. (number, Some number) in
    let index = get_or c.args.indices.now c.loop-i.i 0 in
    let within = c.requires.within c.loop-i.i 0 c.loop-i-test.true in
    let at = slice_get-get_or c.args.indices.now c.loop-i.i 0 c.loop-i-test.true in
    let current = get_or c.loop-i.counts index 0 in
    let state = slice_get-get_or c.loop-i.counts index 0 (omega (arith, within, c.loop-i.auto.counts)) in
    row_more count_step c.loop-i.counts (own_pairs c.args.indices.now) c.loop-i.i index k (Some index) current
    ((current + 1) % 2 ^ 64) 0 (get-map one c.args.indices.now c.loop-i.i index at) state refl (c.loop-i.invariant k low)

pub returns-clause-folded : goal.returns-clause-folded
returns-clause-folded c = λ k low.
    let one : ℕ → ℕ × Option ℕ = λ number. (number, Some number) in
    c.loop-i.invariant k low
    ∙ ap (λ ps. Some (fold count_step 0 (values_at ps k))) (take_all c.loop-i.i (own_pairs c.args.indices.now)
    (omega (arith, length-map c.args.indices.now one)))
