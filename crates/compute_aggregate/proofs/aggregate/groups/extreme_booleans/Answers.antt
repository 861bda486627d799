use Rattle.std.proofs.Common.{◌∙◌, length, sym}
use Rattle.std.specs.Cmp.{bool_cmp_total}
use Rattle.std.specs.Ordering.{bool_cmp}
use Rattle.std.proofs.lemmas.List.{length-map}
use Rattle.std.proofs.lemmas.Result.{MatchResult-weaker}
use Rattle.std.specs.Prelude.{option_map}
use Rattle.compute_aggregate.specs.Groups.{as_seen}
use Rattle.compute_aggregate.proofs.GroupLemmas.{extremes_made, same_slots}
use Rattle.compute_aggregate.proofs.aggregate.groups.extreme_booleans.Goals as goal

pub returns-clause-ok : goal.returns-clause-ok
returns-clause-ok c =
    let items = c.in_ok-best.best.items in
    MatchResult-weaker c.booleans_like-made.result c.booleans_like-made.ensures.ok
    (λ made is. extremes_made bool_cmp bool_cmp_total c.args.extreme c.args.array.now
    c.args.groups.now.indices (length c.args.groups.now.first)
    (as_seen (λ value. value) items) c.in_ok-best.ensures.ok c.as_slice.result.now made
    (length-map items (option_map (λ value. value)) ∙ c.in_ok-best.ensures.count)
    (c.as_slice.ensures.value ∙ sym (same_slots items)) is) (λ _ t. t)
