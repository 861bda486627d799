use Rattle.std.proofs.Common.{◌∙◌, length, sym}
use Rattle.std.proofs.lemmas.List.{length-map}
use Rattle.std.proofs.lemmas.Result.{MatchResult-weaker}
use Rattle.std.specs.Prelude.{option_map}
use Rattle.compute_aggregate.specs.Groups.{as_seen}
use Rattle.compute_aggregate.proofs.GroupLemmas.{extremes_made, same_slots}
use Rattle.compute_aggregate.proofs.aggregate.groups.extreme_numbers.Goals as goal

pub returns-clause-ok : goal.returns-clause-ok
returns-clause-ok g c =
    let items = c.in_ok-best.best.items in
    MatchResult-weaker c.numbers_like-made.result c.numbers_like-made.ensures.ok
    (λ made is. extremes_made g.T.Ord.cmp g.met.T.Ord.total c.args.extreme c.args.array.now
    c.args.groups.now.indices (length c.args.groups.now.first)
    (as_seen (λ value. value) items) c.in_ok-best.ensures.ok c.as_slice.result.now made
    (length-map items (option_map (λ value. value)) ∙ c.in_ok-best.ensures.count)
    (c.as_slice.ensures.value ∙ sym (same_slots items)) is) (λ _ t. t)
