use Rattle.std.proofs.Common.{subst}
use Rattle.std.specs.List.{zip}
use Rattle.compute_group.specs.Grouping.{IsGrouping}
use Rattle.compute_group.proofs.GroupLemmas.{grouped_values}
use Rattle.compute_group.proofs.group_numbers.Groups.refine_with.Goals as goal

pub returns-clause-ok : goal.returns-clause-ok
returns-clause-ok g c =
    let left = c.indices-left.result.now in
    let right = c.indices-right.result.now in
    let first = c.in_ok-group_slots.field-0.first in
    let numbers = c.in_ok-group_slots.field-0.indices in
    subst (λ xs. IsGrouping (zip xs c.args.other.now.indices) first numbers) c.indices-left.ensures.value
    (subst (λ ys. IsGrouping (zip left ys) first numbers) c.indices-right.ensures.value
    (grouped_values (zip left right) first numbers c.in_ok-group_slots.ensures))
