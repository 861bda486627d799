use Rattle.std.proofs.Common.{◌≡◌, ◌∙◌, Some, ap, length, sym}
use Rattle.std.proofs.lemmas.Option.{same_Some}
use Rattle.std.proofs.lemmas.Result.{MatchResult-weaker}
use Rattle.arrow_types.specs.Types.{default_logical_type}
use Rattle.arrow_types.specs.declared.primitive_type.PrimitiveType.TheVariants.{UInt64}
use Rattle.compute_aggregate.specs.Groups.{group_values}
use Rattle.compute_aggregate.proofs.GroupLemmas.{counts_made, group_counted}
use Rattle.compute_aggregate.proofs.aggregate.groups.group_count.Goals as goal

pub returns-clause-ok : goal.returns-clause-ok
returns-clause-ok g c =
    let column = g.A.Array.column c.args.array.now in
    let counts = c.in_ok-counts_of_groups in
    MatchResult-weaker c.from_vec.result c.from_vec.ensures.ok
    (λ made is. counts_made (default_logical_type UInt64) (length c.args.groups.now.first)
    (λ k slot. slot ≡ Some (length (group_values column c.args.groups.now.indices k))) made
    counts.field-0.items is counts.ensures.count
    (λ k low n at. ap Some (same_Some _ _ (sym at ∙ counts.ensures.ok k low)
    ∙ group_counted column c.args.groups.now.indices k counts.ensures.few))) (λ _ t. t)
