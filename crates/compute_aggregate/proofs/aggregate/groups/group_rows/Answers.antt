use Rattle.std.proofs.Common.{◌≡◌, ◌∙◌, Some, ap, length, sym}
use Rattle.std.proofs.lemmas.Option.{same_Some}
use Rattle.std.proofs.lemmas.Result.{MatchResult-weaker}
use Rattle.arrow_types.specs.Types.{default_logical_type}
use Rattle.arrow_types.specs.declared.primitive_type.PrimitiveType.TheVariants.{UInt64}
use Rattle.compute_aggregate.specs.Groups.{group_size}
use Rattle.compute_aggregate.proofs.GroupLemmas.{counts_made, rows_counted}
use Rattle.compute_aggregate.proofs.aggregate.groups.group_rows.Goals as goal

pub returns-clause-ok : goal.returns-clause-ok
returns-clause-ok c =
    let groups = c.args.groups.now in
    let counts = c.in_ok-sizes_of_groups in
    MatchResult-weaker c.from_vec.result c.from_vec.ensures.ok
    (λ made is. counts_made (default_logical_type UInt64) (length groups.first)
    (λ k slot. slot ≡ Some (group_size groups.indices k)) made counts.field-0.items is counts.ensures.count
    (λ k low n at. ap Some (same_Some _ _ (sym at ∙ counts.ensures.ok k low)
    ∙ rows_counted groups.indices k counts.ensures.few))) (λ _ t. t)
