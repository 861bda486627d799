use Rattle.std.proofs.Common.{◌∙◌, ◌≤◌, ap, length, subst, sym}
use Rattle.std.specs.Cmp.Lexicographic.{nat_list_cmp_total, slice_cmp}
use Rattle.std.specs.Ordering.{nat_cmp}
use Rattle.std.proofs.lemmas.List.{length-map}
use Rattle.std.proofs.lemmas.Result.{MatchResult-weaker}
use Rattle.std.specs.Prelude.{option_map}
use Rattle.arrow_column.specs.Column.{slots_of}
use Rattle.compute_aggregate.specs.Groups.{as_seen, total_size}
use Rattle.compute_aggregate.proofs.GroupLemmas.{extreme_picks, extremes_made}
use Rattle.compute_aggregate.proofs.OrderedLemmas.{groups_fit}
use Rattle.compute_aggregate.proofs.aggregate.groups.extreme_texts.Goals as goal

pub items_like-made-requires : goal.items_like-made-requires
items_like-made-requires g c =
    let items = c.in_ok-best.best.items in
    let slots = slots_of c.args.array.now in
    subst (λ best. total_size length (as_seen (λ item. item.now) best) ≤ total_size length slots) (sym c.as_slice.ensures.value)
    (groups_fit length c.args.groups.now.indices slots (as_seen (λ item. item.now) items)
    (extreme_picks (slice_cmp nat_cmp) nat_list_cmp_total c.args.extreme c.args.array.now
    c.args.groups.now.indices (length c.args.groups.now.first)
    (as_seen (λ item. item.now) items) c.in_ok-best.ensures.ok (length-map items (option_map (λ item. item.now)) ∙ c.in_ok-best.ensures.count)))

pub returns-clause-ok : goal.returns-clause-ok
returns-clause-ok g c =
    let items = c.in_ok-best.best.items in
    MatchResult-weaker c.items_like-made.result c.items_like-made.ensures.ok
    (λ made is. extremes_made (slice_cmp nat_cmp) nat_list_cmp_total c.args.extreme c.args.array.now
    c.args.groups.now.indices (length c.args.groups.now.first)
    (as_seen (λ item. item.now) items) c.in_ok-best.ensures.ok (as_seen (λ item. item.now) c.as_slice.result.now) made
    (length-map items (option_map (λ item. item.now)) ∙ c.in_ok-best.ensures.count)
    (ap (as_seen (λ item. item.now)) c.as_slice.ensures.value) is) (λ _ t. t)
