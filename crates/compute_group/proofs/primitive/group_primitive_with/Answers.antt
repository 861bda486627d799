use Rattle.std.proofs.Common.{◌≡◌, ◌∙◌, Some, ap, map, subst, sym}
use Rattle.std.specs.Prelude.{count_by, not}
use Rattle.arrow_column.specs.Column.{marks_of, slots_of}
use Rattle.compute_group.specs.Grouping.{IsGrouping}
use Rattle.compute_group.proofs.GroupLemmas.{slots_no_null}
use Rattle.compute_group.proofs.primitive.group_primitive_with.Goals as goal

pub returns-then-null_count-eq0-clause-ok : goal.returns-then-null_count-eq0-clause-ok
returns-then-null_count-eq0-clause-ok g c =
    let none : 0 ≡ count_by not (marks_of c.args.array.now) = sym c.if-null_count-eq0.true ∙ c.null_count.ensures in
    let slots : slots_of c.args.array.now ≡ map Some c.as_slice-values.result.now =
    slots_no_null c.args.array.now none ∙ ap (map Some) (sym (c.as_slice-values.ensures ∙ c.values.ensures)) in
    let grouped = c.in_ok-group_slots.field-0 in
    subst (λ xs. IsGrouping xs grouped.first grouped.indices) (sym slots) c.in_ok-group_slots.ensures
